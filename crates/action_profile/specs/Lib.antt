pub mod FieldSets
pub mod Kinds
pub mod Modes
pub mod ProfileSets
pub mod Profiles
