use Rattle.std.proofs.Common.{sym, ◌∙◌, arith}
use Rattle.clk_sched.proofs.Nodes.Got.{got-none, got-made}
use Rattle.clk_sched.proofs.session.got.Got.new.Goals as goal

pub returns-in-Some : goal.returns-in-Some
returns-in-Some c =
    let p = c.in-Some.packet in
    let number = c.from.ensures in
    let sender = c.from-in-Some.ensures in
    let size = c.from-in-Some-2.ensures in
    got-made p _ (omega (arith, number, sender, size)) (omega arith) (omega arith) ∙ sym c.in-Some.is

pub returns-in-None : goal.returns-in-None
returns-in-None c = got-none 0 (omega arith) ∙ sym c.in-None.is
