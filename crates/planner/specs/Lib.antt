-- The problem that is built in.
pub mod Sample
