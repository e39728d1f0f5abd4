-- Lemmas that answers cite.
mod WordLemmas
