pub mod Lines
pub mod Excerpts
pub mod Escapes
pub mod Pointing
pub mod Reports
pub mod Checks
