pub mod BySet
