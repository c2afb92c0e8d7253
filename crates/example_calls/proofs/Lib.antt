pub mod SetOfLemmas
pub mod SetReadLemmas
