pub mod RoundSteps
