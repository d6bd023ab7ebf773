pub mod Asking
pub mod Builds
pub mod KindLines
pub mod Refusing
pub mod Rules
