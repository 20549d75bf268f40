pub mod Exported
pub mod States
