pub mod HexLaws
pub mod LineLaws
pub mod Written
pub mod CallLaws
pub mod Table
