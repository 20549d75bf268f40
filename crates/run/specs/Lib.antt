pub mod Front
pub mod Outcome
