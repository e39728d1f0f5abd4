-- What the parts of a live router say to each other.
pub mod Kept
pub mod Noted
pub mod Room
pub mod Opened
pub mod Buffers
pub mod Given
pub mod Met
pub mod Each
pub mod Runs
