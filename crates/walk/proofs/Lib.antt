-- Laws that only proofs cite.
-- plans that come by, laid on the page
pub mod Laying
-- the rests of a beginning, step by step
pub mod Rests
-- the cells of a node
pub mod Nodes
-- the numbers of the arcs lose nothing
pub mod Guided
-- where bytes and cells stand
pub mod Places
-- a turn of the recursion
pub mod Turns
-- the buffers of a problem steer the walk, and its page is the one asked for
pub mod Steered
-- the sweep of any arcs of the form
pub mod Sweeping
-- the form of bytes that no builder need have made
pub mod Forming
-- the levels of the trail
pub mod Trail
-- a step of the recursion
pub mod Paces
