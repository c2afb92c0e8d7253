pub mod ChildLemmas
pub mod CursorLemmas
pub mod ValueLemmas
