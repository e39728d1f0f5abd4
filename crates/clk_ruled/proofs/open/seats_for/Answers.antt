use Rattle.std.proofs.Common.{refl, ◌∙◌, rules}
use Rattle.crossbeam_queue.specs.Passes.{view}
use Rattle.clk_ruled.proofs.Opening.{seated-step}
use Rattle.clk_ruled.proofs.open.seats_for.Goals as goal

pub loop-rest-preserved : goal.loop-rest-preserved
loop-rest-preserved c =
    let inv = c.loop-rest.invariant in let queue = c.add_seat.ensures.queue in (
      (queue.0 ∙ inv.0.0, queue.2 ∙ inv.0.1),
      (queue.0 ∙ inv.1.0, queue.1 ∙ inv.1.1, queue.2 ∙ inv.1.2),
      seated-step _ _ (view c.loop-rest.pass) _ c.loop-rest.seats.items _ c.loop-rest.rest.now _ (0, 0) c.in-len1-up.len_at_least refl inv.2 c.add_seat.ensures.tap
          (search rules),
    )
