-- What a slot's row means.
pub mod Rows
pub mod Tables
