mod Moves
mod Places
mod Rows
mod StillDue
