-- Lemmas on what a live router keeps. Crates above may cite those that are public.
pub mod Callers
pub mod Crosses
mod Lists
mod Outlets
mod Counts
mod QueueTokens
mod Steps
mod AfterOffer
mod Fitting
mod SoFar
mod Runs
mod Openings
pub mod Pulls
mod Reclaims
pub mod Drains
mod Meetings
mod Rounds
