-- What each node holds from pull to pull, by its earlier turns.
pub mod Served
pub mod Deficit
pub mod Stride
pub mod Shaper
pub mod OfClass
