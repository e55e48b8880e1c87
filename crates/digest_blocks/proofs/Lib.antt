pub mod BlockSteps
pub mod CompressedLaws
