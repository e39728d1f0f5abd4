use Rattle.std.proofs.Common.{◌++◌, List, [], ◌∷◌, None, ap₂, ◌∙◌, arith}
use Rattle.clk_sched.specs.declared.visit.Visit.{Visit}
use Rattle.clk_sched.specs.Log.{asking}
use Rattle.clk_sched.proofs.Lists.Ranges.{range-next}
use Rattle.clk_sched.proofs.session.log.keep_idle.Goals as goal

pub loop-place-preserved : goal.loop-place-preserved
loop-place-preserved c =
    let idle = c.args.idle.now in
    let so_far = c.loop-place.invariant in
    let pushed = c.push_reserved.ensures in
    let len = so_far.1 in
    let more = pushed.len in (
      pushed.items ∙ ap₂ (λ (xs : List Visit) (v : Visit). xs ++ v ∷ []) so_far.0 c.visit.ensures ∙ range-next (λ i. asking idle.pull idle.moment idle.node i None) c.args.kept.now.items idle.first c.loop-place.place,
      omega (arith, len, more),
      pushed.capacity ∙ so_far.2,
    )
