-- Lists: what holds of each member, the members that pass a test, a member that is written, and whether an option is a number.
pub use Rattle.clk_sched.proofs.Lists.Members.{of-all, to-all, all-split, all-weaker, filter-all}
pub use Rattle.clk_sched.proofs.Nodes.Placed.{set-here, set-other}
pub use Rattle.clk_sched.proofs.Lists.Numbers.{is_number}
