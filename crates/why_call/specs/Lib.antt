pub mod Answers
pub mod Due
pub mod Ending
pub mod Ran
pub mod Reporting
