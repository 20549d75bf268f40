pub mod Edits
pub mod Keeping
pub mod EditNumbers
pub mod Statements
pub mod KeepStatements
pub mod EditCases
pub mod KeepCases
