use Rattle.std.proofs.Common.{List, All, ◌<◌, ◌≤◌, ℕ, refl, arith}
use Rattle.std.proofs.lemmas.List.Elements.{All-weaker}
use Rattle.clk_packet.specs.declared.packet.Packet.{Packet}
use Rattle.clk_packet.specs.declared.tally.Tally.{Tally}
use Rattle.clk_report.specs.Devices.{all_emitted}
use Rattle.clk_report.specs.inside.Totals.{AccountsBeyond}
use Rattle.clk_report.proofs.ReportLemmas.{lines-are}
use Rattle.clk_report.proofs.reports.report.Goals as goal

-- where all senders stand in the table, no tally has to account for anything
none-beyond : (emitted : List Packet) (tallies : List Tally) (len n : ℕ) → len ≤ n → All (λ (t : Tally). t.sender < len) tallies → All (AccountsBeyond n emitted) tallies
none-beyond emitted tallies len n few within =
    All-weaker (λ (t : Tally). t.sender < len) (AccountsBeyond n emitted) (λ t below beyond. absurd (omega (arith, few, below, beyond))) tallies within

pub returns-then-table_len-le-FEW : goal.returns-then-table_len-le-FEW
returns-then-table_len-le-FEW g c =
    let emitted = all_emitted c.args.emitted.now in
    let wrote = c.write_lines.ensures.lines emitted (λ s within. refl) (none-beyond emitted c.args.tallies.now c.table_len.result 256 (omega arith) c.table_len.ensures.within) in
    rw (lines-are emitted c.args.tallies.now) at wrote

pub returns-else-table_len-le-FEW : goal.returns-else-table_len-le-FEW
returns-else-table_len-le-FEW g c =
    let emitted = all_emitted c.args.emitted.now in
    let wrote = c.write_lines-else-table_len-le-FEW.ensures.lines emitted (λ s within. refl) (none-beyond emitted c.args.tallies.now c.table_len.result 65536 c.table_len.ensures.limit c.table_len.ensures.within) in
    rw (lines-are emitted c.args.tallies.now) at wrote
