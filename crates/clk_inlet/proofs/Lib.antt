-- Lemmas on the items of an inlet.
pub mod Order
pub mod Halves
pub mod Sending
pub mod Taking
