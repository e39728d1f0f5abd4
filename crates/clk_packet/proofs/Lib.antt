-- Lemmas that answers cite, of which `Callers` has those that crates above may cite too.
mod BytesLemmas
pub mod Callers
mod Copies
mod DigitLemmas
mod FieldLemmas
mod LengthLemmas
mod NumberLemmas
mod PlainLemmas
mod RecordLemmas
mod TraceLemmas
