pub mod Cursor
pub mod Children
pub mod Names
pub mod Values
