-- Laws that the functions' proofs cite, and what is true of the struct.
pub mod Arrays
pub mod Rules
pub mod Shares
pub mod Faultless
pub mod Again
