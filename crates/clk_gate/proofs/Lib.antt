-- Lemmas on what the senders of a run send.
pub mod Callers
