pub mod Nowhere
pub mod Taken
pub mod Counting
pub mod Rowing
pub mod Apart
pub mod Each
pub mod Weaving
mod Rows
