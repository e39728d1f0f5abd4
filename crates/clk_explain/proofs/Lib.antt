-- What the code meets its contracts by.
pub mod WordLemmas
