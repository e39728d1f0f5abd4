-- What the parts of a run say to each other.
pub mod Consuming
pub mod Recording
pub mod Sending
pub mod Counts
