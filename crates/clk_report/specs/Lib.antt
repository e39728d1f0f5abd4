-- The texts that tell of a run.
pub mod Counts
pub mod Devices
pub mod Report
pub mod VisitCsv
pub mod inside
