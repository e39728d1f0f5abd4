-- The checks of ports and of trees, and their tables.
pub mod CountLemmas
pub mod FailureLemmas
pub mod LevelLemmas
pub mod PathLemmas
pub mod PortLemmas
pub mod TableLemmas
pub mod UsedLemmas
