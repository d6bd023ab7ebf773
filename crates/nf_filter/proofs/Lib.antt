pub mod AllShown
pub mod Deciding
pub mod DecidingLines
pub mod FirewallRows
pub mod Guards
pub mod SignatureRows
