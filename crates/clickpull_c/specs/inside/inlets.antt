-- The handle of an inlet.
pub mod Follows
pub mod Handle
pub mod Place
