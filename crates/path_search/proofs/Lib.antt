mod AheadLemmas
mod ChainLemmas
mod LeftLemmas
mod FindsLemmas
mod RunLemmas
