use Rattle.std.proofs.Common.{◌∙◌}
use Rattle.clk_packet.proofs.BytesLemmas.{HasWritten-more}
use Rattle.clk_packet.proofs.bytes.write_all.Goals as goal

pub loop-rest-preserved : goal.loop-rest-preserved
loop-rest-preserved g c =
    record {
      front = rw c.split_at.ensures.back (HasWritten-more _ _ _ c.args.text.now c.loop-rest.rest.now c.in-Ok.count c.loop-rest.invariant.front c.in-Ok.ensures.bytes);
      failures = c.in-Ok.ensures.counted ∙ c.loop-rest.invariant.failures;
    }
