pub mod Accounts
pub mod Apart
pub mod Desks
pub mod Port
pub mod Targets
