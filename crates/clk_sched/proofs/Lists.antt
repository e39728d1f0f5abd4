-- Lists, numbers and pairs, whatever stands in them.
pub mod Numbers
pub mod Ranges
pub mod Members
pub mod Apart
pub mod Rising
pub mod Written
