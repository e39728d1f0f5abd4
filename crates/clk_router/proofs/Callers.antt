-- The lemmas that crates above may cite, and no others.
pub mod Events
pub mod Emitted
pub mod Accounts
pub mod Apart
pub mod Plans
pub mod Keyed
pub mod Chains
