-- What the contracts cite.
pub mod Size
