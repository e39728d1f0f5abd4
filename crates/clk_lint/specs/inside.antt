-- What the code's own parts say to one another: no contract of a public call stands on it.
pub mod Sent
pub mod Kept
