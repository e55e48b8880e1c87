pub mod Answers
pub mod ListAnswers
pub mod LineAnswers
pub mod Pinned
pub mod Theorems
pub mod Door
