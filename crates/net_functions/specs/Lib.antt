pub mod NetDeciding
pub mod NetFunctions
pub mod NetFunctionLaws
pub mod Builds
pub mod StateRows
pub mod NetNotes
