pub mod Nodes
pub mod Replays
