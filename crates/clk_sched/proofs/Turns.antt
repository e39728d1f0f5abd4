-- The turn of a node of each class: what it asks, and what it holds after.
pub mod TurnPrio
pub mod TurnRoundRobin
pub mod RoundRobinAsks
pub mod TurnStride
pub mod StrideAsks
pub mod TurnShaper
pub mod ShaperRow
pub mod LooksDrr
pub mod TurnDrr
pub mod PastIdle
pub mod RestDrr
pub mod Resting
