use Rattle.std.proofs.Common.{◌≡◌, ◌+◌, max, drop, add-one, ◌∙◌}
use Rattle.clk_packet.specs.Trace.{sent_by}
use Rattle.clk_lint.specs.Load.{longest_of}
use Rattle.clk_lint.proofs.LoadLemmas.{longest-more}
use Rattle.clk_lint.proofs.load.longest_of.Goals as goal

pub loop-number-preserved : goal.loop-number-preserved
loop-number-preserved c =
    let n = c.loop-number.number in
    let packets = sent_by c.args.traces.now c.args.sender in
    let more : max c.max-longest.result (longest_of (drop (n + 1) packets)) ≡ max c.loop-number.longest (longest_of (drop n packets))
    = rw (add-one, c.max-longest.ensures) (longest-more packets n c.loop-number.longest c.length_of.result c.length_of.ensures) in
    more ∙ c.loop-number.invariant
