pub mod LookWays
pub mod RuleLook
