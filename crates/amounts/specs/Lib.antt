pub mod Lowest
pub mod Printed
pub mod Quotients
pub mod Ranges
pub mod Refusals
pub mod Sums
