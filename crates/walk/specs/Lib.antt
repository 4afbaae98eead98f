-- What the contracts cite.
-- what a beginning of a plan leads to
pub mod Beginnings
