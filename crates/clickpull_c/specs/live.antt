-- What calls do to a live router, and what they fill in.
pub mod Drains
pub mod Examples
pub mod Handing
pub mod Opens
pub mod Pulls
pub mod Reclaims
pub mod State
pub mod Takes
pub mod Tells
pub mod Values
