pub mod Ending
pub mod Masks
pub mod Played
pub mod Stretches
