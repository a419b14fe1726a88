pub mod Keys
pub mod Lookups
pub mod Shifts
pub mod Calls
pub mod Ranges
pub mod ByFields
