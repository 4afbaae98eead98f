-- Laws that the functions' proofs cite.
pub mod Parts
pub mod Bodies
pub mod Rules
pub mod Accepted
pub mod Cases
