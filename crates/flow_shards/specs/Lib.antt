pub mod Flows
pub mod InOrderOfTime
pub mod Monitoring
pub mod Sharding
pub mod TwoColumns
pub mod Working
