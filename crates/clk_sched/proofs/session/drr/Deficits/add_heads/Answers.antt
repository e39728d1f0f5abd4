use Rattle.std.proofs.Common.{◌≡◌, arith}
use Rattle.std.proofs.lemmas.Grind.{common_steps}
use Rattle.clk_sched.specs.declared.session.drr.Served.{Served}
use Rattle.clk_sched.proofs.Sessions.Held.{filter_map-more}
use Rattle.clk_sched.proofs.session.drr.Deficits.add_heads.Goals as goal

pub loop-served-preserved : goal.loop-served-preserved
loop-served-preserved c =
    let row : c.as_slice-served-items.result.now ≡ c.args.self.now.row.items = c.as_slice-served-items.ensures.value in
    let more = rw row at (filter_map-more (λ (s : Served). s.head) c.as_slice-served-items.result.now c.loop-served.served-index c.served-item.result (omega arith) c.served-item.is) in
    grind (arith, common_steps, more)
