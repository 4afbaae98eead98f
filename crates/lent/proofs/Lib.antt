-- What is true of diagrams in lent buffers.
-- what stands at a place of a layer
pub mod Places
-- arcs with the same number of nodes in every layer
pub mod Wide
-- the closing sweep
pub mod Swept
-- numbers brought arc by arc
pub mod Scatter
-- states by first appearance
pub mod FirstOrder
-- the cheapest path
pub mod Led
-- how large campaigns and their numbers are
pub mod Small
pub mod Fit
-- numbers as lanes
pub mod Lanes
pub mod Vec
pub mod Downs
pub mod Ups
pub mod Cells
pub mod Pass
-- the layers of a whole diagram
pub mod Whole
-- arcs bring numbers to their children
pub mod Brings
-- what stands at a node's place in a buffer
pub mod Table
-- demand 2, over files
pub mod Demand
-- building's states are the pairs of the down numbers
pub mod Stated
-- the form of the arcs, as they are built and whatever falls
pub mod Shape
