pub mod Dotted
pub mod AnyCase
pub mod Table
