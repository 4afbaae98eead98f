-- What is true of states by value.
-- one list of two, place by place
pub mod Joined
-- lengths, and totals within a size
pub mod Sizes
-- turns of the loops over eight places
pub mod Turns
-- rows of states
pub mod Rows
-- the shares of a step
pub mod Steps
-- keys and buckets
pub mod Keys
-- states with zeros behind those of the rules
pub mod Padded
