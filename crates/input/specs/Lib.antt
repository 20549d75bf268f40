pub mod Filled
pub mod Known
