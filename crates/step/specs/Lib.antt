-- What the contracts cite.
-- the walk's answer
pub mod Answers
-- one step, and the page
pub mod Steps
