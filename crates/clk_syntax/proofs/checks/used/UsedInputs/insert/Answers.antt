use Rattle.std.proofs.Common.{◌+◌, get_or, None}
use Rattle.std.specs.BTreeSet.{contains}
use Rattle.clk_syntax.specs.inside.Used.{pair_cmp, is_in}
use Rattle.clk_syntax.proofs.Graphs.UsedLemmas.{inserted}
use Rattle.clk_syntax.proofs.checks.used.UsedInputs.insert.Goals as goal

pub returns-then-slot-len-clause-used : goal.returns-then-slot-len-clause-used
returns-then-slot-len-clause-used c = λ i j.
    let used = c.args.self.now in
    inserted c.args.place c.args.input i j (is_in (get_or used.slots.items (get_or used.starts.items i 0 + j) None) i j) (contains pair_cmp c.insert.new.self (i, j))
    (contains pair_cmp used.more (i, j)) (c.in_ok-insert.ensures.updates.0 (i, j))

pub returns-in_ok-insert-in-Some-clause-used : goal.returns-in_ok-insert-in-Some-clause-used
returns-in_ok-insert-in-Some-clause-used c = λ i j.
    let used = c.args.self.now in
    inserted c.args.place c.args.input i j (is_in (get_or used.slots.items (get_or used.starts.items i 0 + j) None) i j) (contains pair_cmp c.insert-in-Some.new.self (i, j))
    (contains pair_cmp used.more (i, j)) (c.in_ok-insert-in-Some.ensures.updates.0 (i, j))
