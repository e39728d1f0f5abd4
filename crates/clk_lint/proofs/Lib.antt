-- Lemmas that answers cite.
mod LoadLemmas
mod TextLemmas
mod QuantumLemmas
mod WalkLemmas
