use Rattle.std.proofs.Common.{◌≤◌, ◌-◌, ◌∙◌, ℕ, ap, length, arith}
use Rattle.std.proofs.lemmas.Bool.Decides.{nat_tests}
use Rattle.clk_packet.specs.declared.counts.Counts.{Counts}
use Rattle.clk_packet.specs.Lists.{of_sender}
use Rattle.clk_report.proofs.TotalLemmas.{total-left}
use Rattle.clk_report.proofs.reports.counts_by.Goals as goal

pub returns-in-None-clause-counts : goal.returns-in-None-clause-counts
returns-in-None-clause-counts c emitted are beyond =
    let tally = c.args.tally.now in
    let over : length c.args.totals.now ≤ c.from.result = grind (arith, nat_tests, c.in-None.ensures.lookup.0) in
    let number = c.from.ensures in
    let parts = c.counts_of-counts.ensures.counts in
    let left =
    total-left tally.accepted tally.evicted (of_sender tally.sender emitted) c.less-counts.result (beyond (omega (arith, over, number)))
    (c.less-counts.ensures.packets ∙ ap (λ (k : Counts ℕ). k.accepted.packets - k.evicted.packets) parts)
    (c.less-counts.ensures.bytes ∙ ap (λ (k : Counts ℕ). k.accepted.bytes - k.evicted.bytes) parts)
    in
    λ i. record { sender = (parts i).sender; accepted = (parts i).accepted; refused = (parts i).refused; evicted = (parts i).evicted; emitted = left i }
