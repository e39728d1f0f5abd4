-- The shares that schedulers give.
pub mod DeficitRounds
pub mod DeficitShares
pub mod ShaperRate
pub mod StrideShares
pub mod OfTrees
