-- The lemmas that crates above may cite, and no others.
pub mod Records
