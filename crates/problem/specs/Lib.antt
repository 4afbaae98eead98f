-- What the structs mean.
pub mod Held
pub mod Checked
