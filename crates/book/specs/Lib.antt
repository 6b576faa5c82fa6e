pub mod Rules
pub mod Tally
pub mod Slots
pub mod Numbers
