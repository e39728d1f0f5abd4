-- The limits of a run, what its senders send, and whether the plan has them.
pub mod Sent
pub mod Known
