-- The definitions that the loops over lent buffers are told with.
-- arcs with the same number of nodes in every layer
pub mod Wide
-- numbers brought arc by arc
pub mod Scatter
-- the path that the costs up lead along
pub mod Led
-- numbers as lanes, and what the passes over a layer make of them
pub mod Lanes
pub mod Passes
pub mod Vec
-- how large campaigns and their numbers are
pub mod Small
