-- What an explanation of a fault says.
pub mod Position
pub mod Words
pub mod Explanation
pub mod inside
