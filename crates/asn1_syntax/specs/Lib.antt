pub mod Lexical
pub mod Position
