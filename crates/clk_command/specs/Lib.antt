-- What the words of the program ask for, and what is done for them.
pub mod Running
pub mod Linting
pub mod Tasks
pub mod Examples
pub mod InputLimits
