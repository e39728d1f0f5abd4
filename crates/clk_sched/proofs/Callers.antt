-- The lemmas that crates above may cite, and no others.
pub mod Drained
pub mod Due
pub mod Emitted
pub mod Lists
pub mod Traced
