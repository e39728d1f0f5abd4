-- What the crates' contracts say of packets, faults and bytes.
pub mod Bytes
pub mod Counts
pub mod Dealt
pub mod Examples
pub mod Failing
pub mod Fault
pub mod Io
pub mod Lists
pub mod Numbers
pub mod Packets
pub mod Scheduler
pub mod Trace
pub mod Written
pub mod inside
