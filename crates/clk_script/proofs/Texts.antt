-- How the text of a script is read: its fields, numbers, lines and bytes.
pub mod LengthLemmas
pub mod NumberLemmas
pub mod FieldLemmas
pub mod LineLemmas
pub mod PlainLines
pub mod PassLemmas
pub mod SourceLemmas
pub mod ReadingLemmas
