pub mod AskedPart
pub mod AnswerLaws
