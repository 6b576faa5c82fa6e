pub mod Spans
pub mod Keeping
pub mod Fitting
pub mod Counting
pub mod Marking
pub mod Backs
pub mod Alike
pub mod Laying
