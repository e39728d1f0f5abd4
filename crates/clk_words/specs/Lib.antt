-- What the words of the command line ask for.
pub mod Words
pub mod inside
