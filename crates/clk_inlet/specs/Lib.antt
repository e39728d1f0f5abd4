-- What goes through an inlet, and what contracts see of its halves.
pub mod Items
pub mod Halves
pub mod Examples
