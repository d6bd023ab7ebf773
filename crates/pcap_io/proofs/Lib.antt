pub mod Records
pub mod Rows
pub mod Spelling
pub mod Reading
pub mod Relation
pub mod Fronts
pub mod Steps
pub mod JoinedNumbers
