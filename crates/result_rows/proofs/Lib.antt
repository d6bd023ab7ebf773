mod CountRows
pub mod DemoRows
mod GraphRows
mod NgRows
pub mod Rows
mod TunnelRows
