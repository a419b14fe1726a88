pub mod Soundness
pub mod Overflow
