pub mod Becoming
pub mod OneByOne
pub mod Overwriting
pub mod Reading
pub mod Rows
pub mod Sieving
pub mod Standing
pub mod Windows
