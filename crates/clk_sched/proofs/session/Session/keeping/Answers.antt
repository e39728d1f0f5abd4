use Rattle.std.proofs.Common.{rules}
use Rattle.std.proofs.Math.Seq.{drop-nil}
use Rattle.clk_sched.proofs.Sessions.SessionPull.{session-first}
use Rattle.clk_sched.proofs.session.Session.keeping.Goals as goal

pub invariant_of-result : goal.invariant_of-result
invariant_of-result c = search (rules, session-first, drop-nil)
