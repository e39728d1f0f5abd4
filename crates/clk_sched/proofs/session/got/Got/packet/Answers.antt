use Rattle.std.proofs.Common.{sym, ◌∙◌}
use Rattle.clk_sched.proofs.Nodes.Got.{got-none, got-some}
use Rattle.clk_sched.proofs.session.got.Got.packet.Goals as goal

pub returns-then-length-eq0 : goal.returns-then-length-eq0
returns-then-length-eq0 c = sym (got-none c.self.inside.number c.if-length-eq0.true) ∙ c.self.view_is

pub returns : goal.returns
returns c = sym (got-some c.self.inside.number _ _) ∙ c.self.view_is
