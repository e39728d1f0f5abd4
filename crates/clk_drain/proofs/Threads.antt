-- How devices are opened, handed to threads, and joined again.
pub mod HandSteps
pub mod Handing
pub mod DeviceSteps
pub mod Opened
pub mod Ended
pub mod JoinSteps
pub mod Joining
