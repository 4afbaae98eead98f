-- Why the cells of `out` hold what is told.
pub mod Cells
