pub mod Opening
pub mod PolicyEnds
pub mod ReadWhole
