pub mod Collecting
pub mod Exports
pub mod Layouts
