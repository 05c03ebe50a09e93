pub mod Elements
pub mod ParamPieces
pub mod PiecesLeft
pub mod TypeParams
pub mod ValuesLeft
