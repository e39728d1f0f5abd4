-- What the functions that read words say to one another.
pub mod Found
