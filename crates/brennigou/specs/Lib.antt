-- What the contracts cite.
pub mod Answers
pub mod Handed
pub mod Out
