-- What is counted of tallies.
use Rattle.std.proofs.Common.{◌≡◌, List, map, ◌∙◌}
use Rattle.std.specs.List.{flat_map}
use Rattle.std.proofs.lemmas.List.Folds.{flat_map-map}
use Rattle.clk_packet.specs.Counts.{counts_of}
use Rattle.clk_packet.specs.declared.packet.Packet.{Packet}
use Rattle.clk_packet.specs.declared.tally.Tally.{Tally}
use Rattle.clk_report.specs.Counts.{counts_text}
use Rattle.clk_report.specs.Report.{report_text}
use Rattle.clk_report.proofs.ReportLemmas.{lines-are}

-- what was counted of tallies tells their report
pub counts-tell : (emitted : List Packet) (tallies : List Tally) → flat_map counts_text (map (counts_of emitted) tallies) ≡ report_text emitted tallies
counts-tell emitted tallies = flat_map-map counts_text (counts_of emitted) tallies ∙ lines-are emitted tallies
