pub mod Walking
pub mod FunctionOnFrame
pub mod Joining
