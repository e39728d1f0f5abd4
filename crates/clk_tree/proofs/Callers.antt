-- The lemmas that crates above may cite, and no others.
pub mod Numbers
pub mod OneTree
pub mod SharedQueues
