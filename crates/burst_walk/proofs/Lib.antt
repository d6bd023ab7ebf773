pub mod Bursting
pub mod Growing
pub mod Leading
pub mod Queues
