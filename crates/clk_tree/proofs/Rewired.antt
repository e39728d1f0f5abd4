-- The connections of a canonical text are those of the plan, in another order, and the checks find the same in both.
pub mod SameWiring
pub mod RewiredNames
pub mod RewiredLinks
pub mod RewiredCame
pub mod RewiredKept
pub mod Rewired
pub mod WiringAgainTests
pub mod WiringAgainPorts
pub mod WiringAgainShape
pub mod WiringAgainPlan
pub mod WiringAgain
