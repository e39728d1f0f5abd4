use Rattle.clk_script.proofs.Carrying.CarriedLemmas.{CarriedTo}
use Rattle.clk_script.proofs.replay.replay_rows.Given as goal

abbrev pub invariant-loop-row : goal.invariant-loop-row
invariant-loop-row g l =
    CarriedTo l.device l.column l.fn.again l.again l.rows l.row-index
    (record { taken = g.W.Sink.taken l.fn.writer; failures = g.W.Sink.failures l.fn.writer; held = l.fn.held.items })
    (record { taken = g.W.Sink.taken l.writer; failures = g.W.Sink.failures l.writer; held = l.held.items })
