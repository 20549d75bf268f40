pub mod Windows
pub mod Tables
pub mod Rules
pub mod Ticks
