-- Lines at their leaves: how they stand, gather their seats, take packets, and grow as a session is pulled over them.
pub mod AtLeaf
pub mod Placing
pub mod LineSteps
pub mod GatherSteps
pub mod Seated
pub mod Offered
pub mod Still
pub mod Taking
pub mod Growing
pub mod PulledLines
pub mod Pulling
