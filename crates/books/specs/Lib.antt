pub mod Answers
pub mod Faults
pub mod Figures
pub mod FromTables
pub mod TariffBooks
pub mod InfillBooks
