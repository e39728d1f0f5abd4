-- The lemmas that crates above may cite, and no others: of lists, and of what contracts of this crate say.
pub mod Lists
pub mod Tokens
pub mod Elements
pub mod Graphs
pub mod Meaning
pub mod Checks
