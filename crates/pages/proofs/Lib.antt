-- Laws of pages.
-- when a page is refused
pub mod Refused
-- what the walk goes along
pub mod Along
-- pages drawn one after another
pub mod Demand
