pub mod FindLemmas
pub mod AssemblyLemmas
