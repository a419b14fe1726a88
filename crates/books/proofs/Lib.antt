pub mod Bounds
pub mod Meanings
