-- What is true of the meanings.
-- the paper's own numbers
pub mod Cases
-- building, rounds and the sweep lose no lawful plan, and no restricted path is unlawful
pub mod Sound
pub mod Walks
pub mod Layers
pub mod Loses
pub mod Drops
pub mod Keeps
pub mod Restricted
-- pages
pub mod Order
pub mod Pages
-- bounds and exactness
pub mod Allowed
pub mod Attains
pub mod Exact
pub mod Cheapest
pub mod Bounds
-- ranges
pub mod Faultless
pub mod Sizes
pub mod Building
pub mod Ranges
-- the reader, and the refusals of the operations
pub mod Table
pub mod Rows
pub mod Bytes
pub mod Written
pub mod Files
pub mod Doors
