pub mod Report
pub mod Uses
