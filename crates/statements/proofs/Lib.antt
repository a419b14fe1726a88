pub mod Bytes
pub mod Tails
pub mod Parts
pub mod ReadBack
pub mod Joined
pub mod Chunks
pub mod Written
