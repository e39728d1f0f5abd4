-- Where the packets of a router are: the law over courses.
pub mod Dealt
pub mod QueuePackets
pub mod OwnPackets
pub mod Emitted
pub mod Accounted
pub mod Numbers
pub mod NoneLeft
pub mod Inside
pub mod InsideSteps
pub mod InsideOffered
pub mod OfSenders
pub mod GoesOn
pub mod OutOrInside
