-- Lemmas that answers cite.
mod LiveLemmas
mod RunningLemmas
mod TaskLemmas
