pub mod DeclaredLines
pub mod LinesOf
pub mod Roles
