-- Laws that only proofs cite.
-- the tests of a step, and the totals behind it
pub mod Steps
