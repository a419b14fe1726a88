pub mod Amounts
pub mod Layout
pub mod Faults
pub mod Outcomes
pub mod Fits
