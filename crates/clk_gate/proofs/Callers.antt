-- The lemmas that crates above may cite, and no others.
pub mod TraceSums
pub mod Unknown
