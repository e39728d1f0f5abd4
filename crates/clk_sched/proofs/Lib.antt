-- The lemmas of trees, runs and sessions, of which `Callers` has those that crates above may cite.
pub mod Callers
mod Lists
mod Classes
mod Trees
mod Runs
mod Conservation
mod Shares
mod Closing
mod Nodes
mod Turns
mod Sessions
