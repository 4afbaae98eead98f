-- What is true of both diagrams, and of what stands in the lent buffers.
-- the rounds
pub mod Rounds
-- the cells, and the bound that stands there
pub mod Cells
pub mod Bounds
-- the way along the plan shown
pub mod Steps
pub mod Along
pub mod Leading
-- refusals, and what is answered
pub mod Refused
pub mod Served
