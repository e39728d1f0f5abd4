-- What the code meets its contracts by, of which `Callers` has the lemmas that crates above may cite too.
pub mod Callers
mod Building
mod Sound
mod Distinct
mod Denoted
mod Canonical
mod Rewired
