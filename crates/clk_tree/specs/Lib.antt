-- The plan that a tree text denotes.
pub mod Plan
pub mod Elements
pub mod PlanTree
pub mod PlanPaths
pub mod PlanParts
pub mod Shares
pub mod Drrs
pub mod Canonical
pub mod Laws
pub mod inside
