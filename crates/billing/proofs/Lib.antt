pub mod Products
pub mod Sums
pub mod Relations
pub mod Forward
pub mod Elsewhere
pub mod Lawful
