-- Laws that only proofs cite.
pub mod Sums
pub mod Lawful
