pub mod Leading
pub mod PacketWays
pub mod Plain
