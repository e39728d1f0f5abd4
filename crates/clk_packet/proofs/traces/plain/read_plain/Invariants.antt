use Rattle.std.proofs.Common.{◌≡◌, ◌≤◌, ◌+◌}
use Rattle.clk_packet.specs.Trace.{packets_in}
use Rattle.clk_packet.specs.declared.limits.TheConstants.{MAX_RECORDS}
use Rattle.clk_packet.proofs.PlainLemmas.{StandsPlain}
use Rattle.clk_packet.proofs.traces.plain.read_plain.Given as goal

abbrev pub invariant-loop : goal.invariant-loop
invariant-loop l = record { count : packets_in l.traces ≡ l.counter; few : l.counter ≤ MAX_RECORDS; stands : StandsPlain l.text (l.counter + 1) l.rest l.traces }
