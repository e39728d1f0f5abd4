-- The senders, queues and devices of a plan, and the rooms that a trace needs there.
pub mod Apart
pub mod PlanSenders
pub mod TraceSums
pub mod Rooms
pub mod QueuesAt
pub mod PlanDevices
pub mod Numbered
