-- What runs through inlets return.
pub mod Run
pub mod Recorded
pub mod inside
