mod Rows
pub mod Lengths
pub mod Drawing
pub mod Sums
pub mod Putting
pub mod Counting
pub mod Ipv4Packets
pub mod RightSums
