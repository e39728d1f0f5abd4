use Rattle.std.proofs.Common.{◌∙◌, is_some, ap}
use Rattle.std.specs.List.{list_any}
use Rattle.clk_sched.specs.declared.session.drr.Deficits.{Deficits}
use Rattle.clk_sched.specs.declared.session.drr.Served.{Served}
use Rattle.clk_sched.proofs.Sessions.Due.{drr-head}
use Rattle.clk_sched.proofs.session.state.State.holds_head.Goals as goal

pub returns-in-Drr : goal.returns-in-Drr
returns-in-Drr c class inputs turns = drr-head class inputs turns c.args.self.now c.holds_head.result c.in-Drr.deficits c.in-Drr.is (c.holds_head.ensures ∙ ap (λ (d : Deficits). list_any (λ (x : Served). is_some x.head) d.row.items) c.deref.ensures)
