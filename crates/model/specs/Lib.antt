pub mod Journal
pub mod Machine
pub mod Examples
pub mod History
pub mod Law
