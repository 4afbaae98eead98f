-- Laws that only proofs cite.
pub mod Steps
pub mod Guarded
