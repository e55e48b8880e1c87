pub mod PackedSteps
