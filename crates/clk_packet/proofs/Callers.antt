-- The lemmas that crates above may cite, and no others: of lists, of packets, of packets that are dealt to two lists, of schedulers, and of
-- what contracts say of bytes and numbers.
pub mod Bytes
pub mod Counts
pub mod Dealt
pub mod Lists
pub mod Numbers
pub mod Packets
pub mod Schedulers
pub mod Written
