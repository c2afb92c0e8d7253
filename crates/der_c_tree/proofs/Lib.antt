mod FoundLemmas
mod FirstBlockLemmas
mod LineLemmas
