mod Keeping
mod Rows
