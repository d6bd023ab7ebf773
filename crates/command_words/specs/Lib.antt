pub mod Apps
pub mod Given
pub mod Matched
pub mod Named
pub mod Roles
pub mod WhyWords
pub mod Words
