pub mod Actions
pub mod Table
