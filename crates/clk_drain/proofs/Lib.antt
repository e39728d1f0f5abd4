-- Lemmas on lines, on what is left to them, and on what became of it all.
mod Lists
mod Leaves
mod Plans
mod Drains
mod Threads
mod Losses
mod Runs
