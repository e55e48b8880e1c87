pub mod Texts
pub mod Admissions
pub mod Table
