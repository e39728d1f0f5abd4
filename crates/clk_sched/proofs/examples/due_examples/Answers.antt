use Rattle.std.proofs.Common.{lit≤, true≢false}
use Rattle.std.proofs.lemmas.Bool.{false≢true}
use Rattle.clk_sched.proofs.examples.due_examples.Goals as goal

pub returns-clause-not_due_early : goal.returns-clause-not_due_early
returns-clause-not_due_early c due = false≢true (due.each 2 (lit≤ tt))

pub returns-clause-not_due_late : goal.returns-clause-not_due_late
returns-clause-not_due_late c due = true≢false (due.each 3 (lit≤ tt))

pub returns-clause-not_due_never : goal.returns-clause-not_due_never
returns-clause-not_due_never c due = true≢false (due.each 3 (lit≤ tt))
