-- What a drain over lines comes to: what is left to it, what it gives, and that the lines are settled.
pub mod Left
pub mod AllGiven
pub mod Emitting
pub mod FromSenders
pub mod Tallies
pub mod SettleSteps
pub mod Settling
pub mod Closed
pub mod ClosingSteps
