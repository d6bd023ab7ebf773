pub mod Branches
pub mod Merging
pub mod Flow
pub mod NotedWalk
pub mod BranchNotes
