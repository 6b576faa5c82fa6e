pub mod Absent
pub mod Each
pub mod Settling
pub mod Acts
pub mod Records
pub mod Sweeps
pub mod Lazies
pub mod Throughs
