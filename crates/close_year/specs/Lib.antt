pub mod Bills
pub mod Exact
