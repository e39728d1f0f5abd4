-- What the code's own parts say to one another: no contract of a public call stands on it.
pub mod Checks
pub mod Lex
pub mod Naming
pub mod Numbers
pub mod Parse
pub mod Used
