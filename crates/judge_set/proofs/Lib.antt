pub mod SetVerdicts
