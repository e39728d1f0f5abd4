-- Records: what their lines say, and that they mean the course that they were written from.
pub mod Lines
pub mod Sound
pub mod Fitting
pub mod Growth
pub mod Writing
pub mod Plans
pub mod Examples
