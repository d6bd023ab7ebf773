pub mod Fitting
pub mod Rule
pub mod Ends
pub mod Kept
