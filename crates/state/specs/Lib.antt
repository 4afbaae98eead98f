-- What a state by value means.
pub mod Pairs
