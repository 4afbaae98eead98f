-- What the table of reaches holds.
pub mod Spans
