use Rattle.std.proofs.lemmas.Result.{on_ok_weaker}
use Rattle.clk_lint.specs.inside.Kept.{plan_in, spot_of, trace_in}
use Rattle.clk_tree.specs.Elements.{planned}
use Rattle.clk_lint.proofs.WalkLemmas.{own-then-below}
use Rattle.clk_lint.proofs.find.+walk.Goals as goal

pub push_at-returns-clause-added : goal.push_at-returns-clause-added
push_at-returns-clause-added t c =
    let own = rw c.deref.ensures.value at c.in_ok-push_own.ensures.added in
    let below = rw c.deref-2.ensures.value at c.push_below.ensures.added in
    on_ok_weaker c.push_below.result
    (own-then-below (plan_in c.args.judged.now) (trace_in c.args.judged.now) c.args.levels (spot_of c.args.spot) (planned c.in-Some.element.now) c.args.found.now.items _ _ c.if-levels-eq0.false c.in-Some.ensures own)
    below
