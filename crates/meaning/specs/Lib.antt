-- Every definition that a reader must believe, in the order to read them.
pub mod Plan
pub mod Problem
pub mod Diagram
pub mod Filter
pub mod Bound
pub mod Buffers
pub mod Page
pub mod File
pub mod Running
pub mod Calls
pub mod Interface
