pub mod Chaining
pub mod Leading
pub mod OnePart
pub mod Opens
pub mod Parting
pub mod Staying
pub mod UnderWay
