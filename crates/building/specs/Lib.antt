-- What a layer is in a row of numbers and in bytes.
pub mod Layers
