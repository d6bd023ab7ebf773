pub mod Seeing
pub mod Turning
pub mod UnderWay
