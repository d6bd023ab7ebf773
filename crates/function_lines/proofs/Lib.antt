pub mod EnoughSeen
pub mod Gathering
pub mod Refusing
