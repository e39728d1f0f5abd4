-- Nodes that are pulled: what they ask, what they record, and what stays.
pub mod Below
pub mod Pulling
pub mod Asking
pub mod InTwo
pub mod First
pub mod Got
pub mod Asked
pub mod Edges
pub mod InOrder
pub mod Placed
pub mod Ordered
pub mod Logged
pub mod Idle
pub mod Resting
