-- What is printed.
pub mod Lines
