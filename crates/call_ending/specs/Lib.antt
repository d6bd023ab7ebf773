pub mod Broken
pub mod Endings
pub mod Left
pub mod Notes
pub mod Reading
pub mod Results
pub mod Status
pub mod Told
