-- What the contracts cite.
pub mod Refusals
