-- What a text says as a whole: its statements are the only ones, and it has one fault or none.
pub mod ReadLemmas
pub mod Rests
pub mod Mending
pub mod MemoryLemmas
pub mod FaultLemmas
pub mod OneFault
pub mod Told
pub mod SpaceLemmas
