pub mod FindLemmas
pub mod ItemLemmas
pub mod EncodingLemmas
pub mod NameLemmas
mod PartLemmas
pub mod NameWalkLemmas
pub mod LenientLemmas
