pub mod PartMoves
pub mod LineFronts
pub mod PieceLaws
pub mod BodyRests
