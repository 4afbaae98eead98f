-- What is true of a slot's parts and row, and of the tables.
-- a loop that lays lists
pub mod Laid
-- parts and rows while they fill
pub mod Laws
-- of a problem without fault
pub mod Said
