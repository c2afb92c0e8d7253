pub mod SameBits
pub mod Instants
pub mod Rewriting
pub mod Lists
pub mod Components
pub mod Same
pub mod Pieces
