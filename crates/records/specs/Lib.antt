pub mod Rows
pub mod Unrolled
pub mod Reads
pub mod RowRules
pub mod Writes
