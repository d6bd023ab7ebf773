pub mod Pieces
pub mod PiecePackets
pub mod Rejoining
pub mod Kinds
