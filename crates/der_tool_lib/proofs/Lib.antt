pub mod WordLemmas
pub mod TextLemmas
pub mod JoinLemmas
pub mod HeaderLemmas
pub mod ElementLemmas
pub mod WholeElementLemmas
