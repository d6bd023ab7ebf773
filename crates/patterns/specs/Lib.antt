pub mod Laws
pub mod Lengths
pub mod Lines
pub mod Occurrences
pub mod Overwriting
pub mod Sieving
pub mod Steps
pub mod Windows
