-- How the tokens of a text are found, and how its statements are read from them.
pub mod LexLemmas
pub mod ParseLemmas
pub mod TextLemmas
pub mod TextLengths
pub mod StatementLemmas
pub mod WithinLemmas
pub mod NumberTokens
