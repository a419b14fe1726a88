pub mod Quotients
pub mod Sums
pub mod Lowest
pub mod Made
pub mod Signed
