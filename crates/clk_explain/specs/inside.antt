-- What the code's own parts say to one another.
pub mod Diagram
