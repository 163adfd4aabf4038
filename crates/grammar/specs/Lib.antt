pub mod Expr
pub mod Spelling
pub mod Nullable
pub mod Allowed
pub mod Tables
pub mod Layout
pub mod Held
