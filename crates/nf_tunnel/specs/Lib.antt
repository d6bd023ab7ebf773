pub mod OuterHeaders
pub mod Tunnels
pub mod Headers
pub mod TunnelLines
pub mod Ends
