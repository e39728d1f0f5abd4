-- What the code's own parts say to one another: no contract of a public call stands on it.
pub mod Fields
pub mod Lines
pub mod Numbered
pub mod Reading
pub mod ScriptRouter
pub mod Rows
pub mod Replay
