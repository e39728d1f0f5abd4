-- Sessions: their pulls, their drains, and the heads that they hold.
pub mod Held
pub mod SessionPull
pub mod Departed
pub mod SessionDrain
pub mod Due
