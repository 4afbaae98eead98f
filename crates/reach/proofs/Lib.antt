-- Why the table of reaches holds them.
pub mod Steps
pub mod Spans
pub mod Table
pub mod Turn
