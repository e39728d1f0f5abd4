-- What is declared and connected, by name.
pub mod ClassLemmas
pub mod WidthLemmas
pub mod NameLemmas
pub mod MixedLemmas
pub mod SlotLemmas
pub mod MarkLemmas
pub mod LinkLemmas
pub mod JudgeLemmas
pub mod UnknownLemmas
