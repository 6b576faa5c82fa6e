pub mod Finding
pub mod Plans
pub mod Numbers
