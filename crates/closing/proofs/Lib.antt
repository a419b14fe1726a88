pub mod Going
pub mod Grounds
pub mod Ends
