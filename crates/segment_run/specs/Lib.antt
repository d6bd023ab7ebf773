pub mod Counting
pub mod Segments
pub mod Rewriting
pub mod GraphRun
