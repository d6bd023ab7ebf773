pub mod Headers
pub mod Replacing
pub mod Outer
pub mod Entering
pub mod Leaving
pub mod Lengths
pub mod Seen
mod Rows
mod LineRows
