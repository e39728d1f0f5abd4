-- Which warnings a plan has, and how they are told.
pub mod Load
pub mod Warnings
pub mod Lines
pub mod Examples
pub mod inside
