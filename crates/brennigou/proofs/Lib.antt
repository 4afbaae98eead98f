-- Laws that the functions' proofs cite.
pub mod Opened
pub mod Cells
pub mod Lent
pub mod Paged
pub mod Told
