-- Laws that only proofs cite.
pub mod Laws
