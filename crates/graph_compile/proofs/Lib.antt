pub mod Counting
pub mod Drafts
pub mod Filling
pub mod FiveFacts
pub mod Following
pub mod Handed
pub mod InARow
pub mod Judged
pub mod Making
pub mod Owning
mod Rows
pub mod BranchesInOrder
pub mod Testing
pub mod Times
pub mod Touches
