-- Lemmas on what the tests make.
mod Closing
