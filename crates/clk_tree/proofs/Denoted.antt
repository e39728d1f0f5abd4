-- What is known of a plan that a text denotes.
pub mod DenotesLemmas
pub mod OneMeaning
pub mod DevicePaths
pub mod FedPlans
pub mod QueueLemmas
pub mod QueueLaws
pub mod LeafLemmas
pub mod SharedOut
pub mod DrrCounts
pub mod PartLemmas
pub mod PlanLemmas
