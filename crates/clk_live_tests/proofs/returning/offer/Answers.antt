use Rattle.std.proofs.Common.{[], ◌∷◌, ◌++◌, ◌∙◌, ap}
use Rattle.clk_inlet.specs.Halves.{offered}
use Rattle.clk_inlet.specs.Items.{packet_item}
use Rattle.clk_live.proofs.Callers.Sending.{sent_then, nothing_sent}
use Rattle.clk_live_tests.proofs.returning.offer.Goals as goal

pub returns-in-Ok : goal.returns-in-Ok
returns-in-Ok g c =
    record { sent = sent_then c.args.inlet.now c.loop.inlet c.offer.new.self [] (c.args.packet ∷ []) c.loop.invariant.2 (record { offered = c.in-Ok.ensures.offered ∙ ap (λ n. offered c.loop.inlet ++ packet_item n c.args.packet.token ∷ []) c.bytes.ensures; halves = c.offer.ensures.halves }) }

pub loop-preserved : goal.loop-preserved
loop-preserved g c = (tt, tt, sent_then c.args.inlet.now c.loop.inlet c.offer.new.self [] [] c.loop.invariant.2 (nothing_sent c.loop.inlet c.offer.new.self c.in-Err.ensures.refused.0 c.offer.ensures.halves))
