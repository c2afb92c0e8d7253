pub mod Part
pub mod Reader
pub mod FirstBlock
