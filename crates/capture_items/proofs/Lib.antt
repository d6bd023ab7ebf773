pub mod Draining
pub mod Refusing
