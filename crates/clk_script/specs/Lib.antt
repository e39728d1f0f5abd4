-- What scripts, their answers and their records are.
pub mod Script
pub mod Meaning
pub mod Record
pub mod Records
pub mod OneMeaning
pub mod OneDevice
pub mod AccountLines
pub mod Examples
pub mod inside
