pub mod FirstPiece
mod ParameterTests
