-- Laws that only proofs cite.
-- a buffer that fills block by block
pub mod Blocks
-- the passes, layer by layer
pub mod Passes
-- the limit
pub mod Limit
-- bytes that hold the arcs of a diagram
pub mod Held
