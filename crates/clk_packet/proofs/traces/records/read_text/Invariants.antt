use Rattle.std.proofs.Common.{◌≡◌, ◌≤◌, Some}
use Rattle.csv.specs.Reading.{Ready, default_config, source_of}
use Rattle.csv.specs.declared.reader.Trim.TheVariants as trim
use Rattle.clk_packet.proofs.TraceLemmas.{Stands}
use Rattle.clk_packet.proofs.traces.records.read_text.Given as goal

abbrev pub invariant-loop-row : goal.invariant-loop-row
invariant-loop-row l = record {
  plain : l.reader.trim ≡ trim.None;
  ready : Ready l.reader;
  config : l.reader.config ≡ default_config;
  short : l.row ≤ 1000001;
  stands : Stands l.text l.row l.reader.state (source_of (λ s. Some s.now) l.reader) l.traces;
}
