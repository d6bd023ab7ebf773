pub mod Draws
pub mod DemoFrames
pub mod DemoCapture
pub mod Summary
pub mod Giving
pub mod Written
