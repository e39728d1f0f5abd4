-- What is known of elements and connections in which no check finds a fault.
pub mod SoundChecks
pub mod SoundClasses
pub mod SoundNodes
pub mod SoundParents
pub mod SoundPaths
pub mod SoundPlans
pub mod SoundQueues
pub mod SoundSenders
