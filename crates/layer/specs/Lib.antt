-- What the places of a layer are.
pub mod Places
