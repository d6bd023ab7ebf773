pub mod Painter
pub mod SizeLines
