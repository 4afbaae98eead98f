-- What the classes of a layer's children are.
pub mod Classes
