pub mod Blocks
pub mod Units
pub mod Limits
pub mod Adding
