-- What is true of a diagram that is built layer by layer.
-- lists
pub mod Lists
-- states filled up with zeros
pub mod Filled
-- children of a row's nodes
pub mod Children
-- one layer, and all of them
pub mod Layers
pub mod Slots
-- a loop over the rules
pub mod Bounds
-- all slots of a problem by value
pub mod Problems
