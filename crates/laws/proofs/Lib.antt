-- Laws that only proofs cite.
pub mod Lists
pub mod Each
pub mod Parts
pub mod Left
pub mod Filled
pub mod Chains
pub mod Reached
