pub mod Numbers
pub mod Packets
pub mod Filling
pub mod NumberLaws
pub mod FillingLaws
