-- What happens to a router, and what its calls do.
pub mod Events
pub mod Accounts
pub mod Setups
pub mod Stored
pub mod Course
pub mod Chains
pub mod Settled
pub mod InsideQueues
pub mod Due
pub mod Drains
pub mod Examples
pub mod SettledExamples
pub mod inside
