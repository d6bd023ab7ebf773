pub mod Ordering
pub mod NoLineRefused
pub mod FewFunctions
