pub mod Printed
pub mod Said
pub mod Appended
pub mod Wrote
pub mod Rows
