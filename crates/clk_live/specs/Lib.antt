-- What contracts see of a live router, and what its calls do.
pub mod State
pub mod Opening
pub mod Taking
pub mod Pulling
pub mod Draining
pub mod Outcome
pub mod Reclaiming
pub mod Sending
pub mod Examples
pub mod inside
