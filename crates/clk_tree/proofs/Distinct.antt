-- That no queue stands twice in a tree, and how many elements it has.
pub mod DistinctNumbers
pub mod DistinctQueues
pub mod DistinctTrees
pub mod DistinctPlans
