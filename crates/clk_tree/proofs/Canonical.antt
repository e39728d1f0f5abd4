-- The canonical text of a plan, and what is read in it.
pub mod CanonicalSource
pub mod CanonicalParts
pub mod CanonicalWords
pub mod CanonicalLines
pub mod CanonicalElements
pub mod CanonicalWires
pub mod CanonicalStatements
pub mod NumberWords
pub mod WordTokens
pub mod ReadBack
pub mod ReadPlans
pub mod CanonicalLaws
