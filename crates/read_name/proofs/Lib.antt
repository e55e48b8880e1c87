pub mod PlaceLaws
pub mod Onward
pub mod Parents
