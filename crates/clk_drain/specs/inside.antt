-- What the code's own parts say to one another: no contract of a public call stands on it.
pub mod Closing
pub mod Devices
pub mod Handed
pub mod Opening
pub mod Parts
pub mod Threads
