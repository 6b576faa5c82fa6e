pub mod View
pub mod Onward
