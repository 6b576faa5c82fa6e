pub mod Limits
pub mod Onward
