pub mod Spoken
pub mod Meanings
pub mod Spelling
