pub mod Tables
pub mod Reports
