-- What the passes over a whole diagram mean.
pub mod Whole
