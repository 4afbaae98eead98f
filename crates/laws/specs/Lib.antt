-- The functions and laws that the other crates cite.
pub mod Z
pub mod Cells
pub mod Lists
