-- What a tree text says, and its faults.
pub mod Tokens
pub mod Diagram
pub mod Grammar
pub mod Classes
pub mod Source
pub mod Within
pub mod Declarations
pub mod Ports
pub mod Tables
pub mod Size
pub mod Faults
pub mod Reading
pub mod Laws
pub mod Examples
pub mod inside
