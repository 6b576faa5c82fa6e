pub mod Model
pub mod Cells
pub mod Laws
pub mod Lazy
pub mod Through
