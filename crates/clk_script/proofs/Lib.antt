-- Lemmas that answers cite, of which `Callers` has those that crates above may cite too.
pub mod Callers
mod Texts
mod Record
mod Meanings
mod Carrying
