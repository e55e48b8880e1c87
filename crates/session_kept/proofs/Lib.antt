pub mod HeldTexts
pub mod CopiedTexts
pub mod LabelsAbove
pub mod NamesAbove
