pub mod Parts
pub mod Lines
pub mod Edges
pub mod Trailers
pub mod Pieces
pub mod Body
