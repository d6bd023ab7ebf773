pub mod Bits
pub mod KindWords
pub mod Members
mod Rows
