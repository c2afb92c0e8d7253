pub mod ListLemmas
pub mod PieceLemmas
pub mod BitsLemmas
pub mod InstantLemmas
pub mod SameLemmas
pub mod VerdictLemmas
