pub mod TestLemmas
pub mod FaultLemmas
pub mod RowLemmas
pub mod FindLemmas
pub mod TagLemmas
pub mod TableLemmas
