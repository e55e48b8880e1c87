pub mod PackedAnswers
