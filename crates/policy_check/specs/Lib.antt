pub mod Arrangements
pub mod Checked
pub mod Cycles
pub mod Edges
pub mod Firsts
pub mod Refusals
pub mod Turns
pub mod Waiting
