mod AnyLemmas
mod PathLemmas
mod PassLemmas
mod PoolLemmas
mod JudgedLemmas
mod RunLemmas
