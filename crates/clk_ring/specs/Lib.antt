-- What a queue is, and what happens to one.
pub mod QueueHistory
pub mod Queue
pub mod Laws
pub mod Examples
