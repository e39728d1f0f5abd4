use Rattle.std.proofs.Common.{ap, ◌∙◌, ℕ, arith}
use Rattle.clk_packet.specs.Counts.{total_of}
use Rattle.clk_packet.specs.declared.counts.Total.{Total}
use Rattle.clk_packet.proofs.Callers.Counts.{bytes-few}
use Rattle.clk_report.proofs.counts.counts_of.Goals as goal

pub returns-clause-counts : goal.returns-clause-counts
returns-clause-counts c =
    let accepted = c.total_of.ensures ∙ ap total_of c.as_slice.ensures in
    let refused = c.total_of-2.ensures ∙ ap total_of c.as_slice-2.ensures in
    let evicted = c.total_of-3.ensures ∙ ap total_of c.as_slice-3.ensures in
    λ i. record { sender = c.args.tally.now.sender; accepted = accepted i; refused = refused i; evicted = evicted i; emitted = c.args.emitted }

pub returns-clause-fits : goal.returns-clause-fits
returns-clause-fits c =
    let few = bytes-few c.as_slice.result.now in
    let short = bytes-few c.as_slice-2.result.now in
    record {
      packets = let accepted = ap (λ (t : Total ℕ). t.packets) c.total_of.ensures in let refused = ap (λ (t : Total ℕ). t.packets) c.total_of-2.ensures in omega (arith, accepted, refused);
      bytes = let accepted = ap (λ (t : Total ℕ). t.bytes) c.total_of.ensures in let refused = ap (λ (t : Total ℕ). t.bytes) c.total_of-2.ensures in omega (arith, accepted, refused, few, short);
    }
