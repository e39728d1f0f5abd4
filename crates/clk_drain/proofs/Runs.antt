-- What a whole run comes to.
pub mod Leads
pub mod ManyDevices
pub mod WholeRun
pub mod NoHeads
pub mod Accounted
pub mod WorkedMoments
pub mod WorkedLost
