pub mod Answer
pub mod Journal
