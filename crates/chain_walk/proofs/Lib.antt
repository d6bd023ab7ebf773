pub mod WellFormedFields
pub mod FrameWalkIsFieldWalk
pub mod Walking
pub mod PacketsInRow
pub mod QuietFunctions
