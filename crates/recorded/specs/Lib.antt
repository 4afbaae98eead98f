-- What is printed.
pub mod Text
