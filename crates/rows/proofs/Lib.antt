-- Laws that only proofs cite.
pub mod Laid
pub mod Lanes
pub mod Front
pub mod Down
pub mod Cells
pub mod Free
pub mod Layers
pub mod Up
pub mod UpLayer
