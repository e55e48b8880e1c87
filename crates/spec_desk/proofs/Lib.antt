pub mod AnswerLines
pub mod Texts
pub mod Table
