pub mod Columns
pub mod Counts
pub mod Loads
pub mod Ranking
pub mod Releases
