-- What the contracts cite, and what demand 3 is told with.
-- the page's answer
pub mod Answers
-- pages drawn one after another
pub mod Drawn
