pub mod Lexes
