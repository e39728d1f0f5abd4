-- How the parts of a plan are made of elements and connections.
pub mod BuildLemmas
pub mod WiringLemmas
pub mod TreeLemmas
pub mod PartSteps
pub mod PathSteps
pub mod QueueSteps
