pub mod Out
pub mod Spots
pub mod Lexing
