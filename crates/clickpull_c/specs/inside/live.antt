-- The handle of a live router, and loops over it.
pub mod Follows
pub mod Given
pub mod Handle
pub mod Place
