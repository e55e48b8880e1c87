pub mod SetLaws
