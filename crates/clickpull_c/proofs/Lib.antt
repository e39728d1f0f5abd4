-- What the walks of handles share, and lemmas on steps one after another.
pub mod Handles
pub mod HandleLends
pub mod HandleSend
mod AccountsTold
mod Fills
pub mod LiveCrosses
mod LiveLoops
mod LiveTakes
mod LiveSteps
mod Batches
mod Records
mod Offered
pub mod SoFar
