use Rattle.std.proofs.Common.{refl, inr}
use Rattle.clk_packet.proofs.Callers.Written.{wrote-front}
use Rattle.clk_command.proofs.LiveLemmas.{front-whole}
use Rattle.clk_command.proofs.over.live_over.Goals as goal

pub returns-then-failed-clause-wrote : goal.returns-then-failed-clause-wrote
returns-then-failed-clause-wrote g c =
    let h = c.in_ok-sink.ensures.wrote.whole in
    wrote-front _ _ _ _ h.0 refl (h.1.0, (_, c.in_ok-plan.ensures.plan, h.1.1), tt, inr h.2) (front-whole _ _ _ h.2)
