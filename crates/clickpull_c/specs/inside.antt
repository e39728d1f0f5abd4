-- What the code's own parts say to one another: no contract of an export stands on it.
pub mod Follows
pub mod Handle
pub mod Place
pub mod SoFar
pub mod inlets
pub mod live
