pub mod ToolCommand
pub mod PrintedText
pub mod Answer
pub mod Arguments
pub mod WholeElement
