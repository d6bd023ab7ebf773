mod Rows
pub mod Arranging
pub mod Ascending
pub mod Choosing
pub mod Cycling
pub mod Deciding
pub mod Earliest
pub mod Held
pub mod Inside
pub mod Naming
pub mod Refusing
pub mod Soundness
pub mod Trails
pub mod OneTurn
pub mod WaitingLemmas
