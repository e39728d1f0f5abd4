-- Lemmas on runs through inlets.
mod Closings
mod Takings
mod Sendings
mod Records
mod Runs
