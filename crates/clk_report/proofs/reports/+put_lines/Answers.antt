use Rattle.std.proofs.Common.{ap, sym, ◌∙◌, ◌++◌, ◌-◌, length, take, drop, append_assoc, subst, arith}
use Rattle.std.specs.List.{flat_map}
use Rattle.std.proofs.lemmas.List.Elements.{All-take, All-drop}
use Rattle.clk_packet.specs.Counts.{counts_of}
use Rattle.clk_packet.specs.declared.tally.Tally.{Tally}
use Rattle.clk_report.specs.Counts.{counts_text}
use Rattle.clk_report.specs.inside.Totals.{AccountsBeyond}
use Rattle.clk_report.proofs.ReportLemmas.{first-alone}
use Rattle.clk_report.proofs.reports.+put_lines.Goals as goal

pub returns-clause-piece : goal.returns-clause-piece
returns-clause-piece t c emitted are beyond =
    let tally = c.first-item.result in
    let line = λ (t : Tally). counts_text (counts_of emitted t) in
    let senders = c.args.tallies.now in
    let after = drop c.args.end c.args.lines.now in
    let accounts = AccountsBeyond (length c.args.totals.now) emitted in
    let counts = c.counts_by-counts.ensures.counts emitted are (subst accounts (sym c.first-item.is) (beyond 0 tally (omega arith))) in
    let rest = take (length senders - 1) (drop 1 senders) in
    let others = drop c.put_lines-end.result c.put_lines-end.new.lines in
    c.put_line.ensures.piece ∙ ap (λ k. counts_text k ++ others) counts
    ∙ ap (λ l. line tally ++ l) {y = flat_map line rest ++ after} (c.put_lines-end.ensures.piece emitted are (All-take accounts (length senders - 1) (drop 1 senders) (All-drop accounts 1 senders beyond)))
    ∙ sym (append_assoc (line tally) (flat_map line rest) after)
    ∙ ap (λ l. l ++ after) (first-alone line senders tally c.in-len1-up.len_at_least c.first-item.is)
