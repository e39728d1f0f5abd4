-- That the closing bound is enough: what is left in a tree, and one number of its state that falls with each closing pull that gives none.
pub mod Visited
pub mod Turned
pub mod Room
pub mod Costs
pub mod Rows
pub mod PullMore
pub mod First
pub mod Quanta
pub mod Emptied
