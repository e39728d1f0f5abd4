-- Trees, and the tables that they are laid out in.
pub mod QueuesFrom
pub mod TreeLemmas
pub mod LaidOut
pub mod Added
pub mod Distinct
pub mod Drrs
pub mod Numbering
pub mod Below
pub mod QueuesAsked
pub mod TreeBound
