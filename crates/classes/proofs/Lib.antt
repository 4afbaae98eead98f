-- What is true of children and their classes.
-- states of children
pub mod Children
-- lists of classes
pub mod Lists
-- buckets
pub mod Buckets
-- turns of the loops
pub mod Turns
