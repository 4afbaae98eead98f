-- What the contracts cite.
pub mod Fields
