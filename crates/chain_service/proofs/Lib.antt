pub mod Chaining
pub mod Fewness
pub mod Opens
pub mod Serving
pub mod Written
