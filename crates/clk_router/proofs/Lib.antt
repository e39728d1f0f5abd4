-- Lemmas that answers cite, of which `Callers` has those that crates above may cite too.
pub mod Callers
pub mod Crosses
mod SenderLemmas
mod PlaceLemmas
mod PartsLemmas
mod ClosingLemmas
mod QueueCounts
mod FilledLemmas
mod NeverFull
mod NeverShort
mod PlanLemmas
mod RouterLemmas
mod AskLemmas
mod AccountLemmas
mod DueLemmas
mod Settled
mod Drains
