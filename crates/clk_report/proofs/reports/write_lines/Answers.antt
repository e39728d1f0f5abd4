use Rattle.std.proofs.Common.{◌≡◌, ◌∙◌, ℕ, List, All, drop, arith}
use Rattle.std.proofs.lemmas.List.Elements.{All-drop, All-same}
use Rattle.std.proofs.lemmas.Result.{err_from_is_err_and}
use Rattle.std.specs.List.{flat_map}
use Rattle.clk_packet.specs.Counts.{counts_of}
use Rattle.clk_packet.specs.declared.packet.Packet.{Packet}
use Rattle.clk_packet.specs.declared.tally.Tally.{Tally}
use Rattle.clk_report.specs.Counts.{counts_text}
use Rattle.clk_report.specs.Devices.{all_emitted}
use Rattle.clk_report.specs.inside.Totals.{AccountsBeyond, TellsBelow}
use Rattle.clk_report.proofs.ReportLemmas.{HasWritten-part, Wrote-part, flat_map-split, text-alone}
use Rattle.clk_report.proofs.TotalLemmas.{part-counted}
use Rattle.clk_report.proofs.reports.write_lines.Goals.{After-write_all}
use Rattle.clk_report.proofs.reports.write_lines.Goals as goal

-- the line of a tally, if these packets were emitted
abbrev counted_line : List Packet → Tally → List ℕ
counted_line out t = counts_text (counts_of out t)

-- the text of the part is its lines
its-text : (g : _) (c : After-write_all g) (out : List Packet) → TellsBelow g.row.N (all_emitted c.args.emitted.now) out → All (AccountsBeyond g.row.N out) c.args.tallies.now
    → c.split_at-in-loop-rest.result.1.now ≡ flat_map (counted_line out) c.split_at.result.0.now
its-text g c out told accounts =
    let counted =
    part-counted g.row.N c.min.result (all_emitted c.args.emitted.now) out c.count_by_sender.new.totals c.loop-rest.rest.now c.split_at.result.0.now (omega arith) told c.count_by_sender.ensures.totals
    (c.loop-rest.invariant.accounts out accounts) c.split_at.ensures.front in
    c.split_at-in-loop-rest.ensures.back ∙ text-alone (flat_map (counted_line out) c.split_at.result.0.now) _ c.loop-rest.lines 32768 (omega arith) (c.put_lines-start.ensures.piece out counted.0 counted.1)

pub returns-in_err-write_all-clause-lines : goal.returns-in_err-write_all-clause-lines
returns-in_err-write_all-clause-lines g c out told accounts =
    let p = err_from_is_err_and c.from_residual.result c.from_residual.ensures.1 in
    let part = c.split_at.result.0.now in
    let after = c.split_at.result.1.now in
    let split = flat_map-split (counted_line out) c.loop-rest.rest.now part after c.min.result c.split_at.ensures.front c.split_at.ensures.back in
    let failed = rw (its-text g c.before.before.before out told accounts) at c.in_err-write_all.ensures in
    rw (p.1, p.2) (Wrote-part _ _ _ _ _ _ _ _ (flat_map (counted_line out) c.loop-rest.rest.now) (flat_map (counted_line out) part) (flat_map (counted_line out) after) (c.loop-rest.invariant.front out told accounts) c.loop-rest.invariant.failures split failed)

pub loop-rest-preserved : goal.loop-rest-preserved
loop-rest-preserved g c = record {
  front = λ out told accounts.
      let part = c.split_at.result.0.now in
      let after = c.split_at.result.1.now in
      let split = flat_map-split (counted_line out) c.loop-rest.rest.now part after c.min.result c.split_at.ensures.front c.split_at.ensures.back in
      let wrote = rw (its-text g c.before.before out told accounts) at c.in_ok-write_all.ensures in
      HasWritten-part _ _ _ _ (flat_map (counted_line out) c.loop-rest.rest.now) (flat_map (counted_line out) part) (flat_map (counted_line out) after) (c.loop-rest.invariant.front out told accounts) split wrote.whole;
  failures = c.in_ok-write_all.ensures.succeeds ∙ c.loop-rest.invariant.failures;
  accounts = λ out accounts.
      All-same (AccountsBeyond g.row.N out) c.split_at.result.1.now (drop c.min.result c.loop-rest.rest.now) c.split_at.ensures.back
      (All-drop (AccountsBeyond g.row.N out) c.min.result c.loop-rest.rest.now (c.loop-rest.invariant.accounts out accounts));
}
