-- What running and draining devices over shared queues returns.
pub mod Line
pub mod Outcome
pub mod Lost
pub mod Closing
pub mod Parts
pub mod Moments
pub mod Opening
pub mod Run
pub mod Laws
pub mod Examples
pub mod RunExamples
pub mod LostExamples
pub mod DrainExamples
pub mod inside
