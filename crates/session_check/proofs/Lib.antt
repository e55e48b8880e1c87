pub mod HeldParts
pub mod KeptLaws
