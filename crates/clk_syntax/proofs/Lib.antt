-- What the code meets its contracts by. Crates above cite `Callers` alone.
pub mod Callers
mod Parsing
mod Elements
mod Graphs
mod Meaning
