pub mod Beginning
pub mod Bucketing
pub mod Counting
pub mod Doubling
pub mod Filling
pub mod Finding
pub mod Freeing
pub mod Handing
pub mod Keeping
pub mod Linking
pub mod Placing
mod Rows
pub mod Taking
pub mod Walking
