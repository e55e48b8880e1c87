pub mod Table
pub mod Checked
pub mod Tested
