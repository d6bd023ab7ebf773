pub mod Among
pub mod Copying
mod Rows
pub mod ActionsOfProfile
pub mod Walks
