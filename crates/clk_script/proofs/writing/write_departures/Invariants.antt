use Rattle.std.proofs.Common.{◌≡◌, drop, length}
use Rattle.std.specs.List.{flat_map}
use Rattle.clk_script.specs.inside.ScriptRouter.{departure_text}
use Rattle.clk_script.proofs.Texts.PassLemmas.{HasPassed}
use Rattle.clk_script.proofs.writing.write_departures.Given as goal

-- the lines of the departures before this place are passed on
abbrev pub invariant-loop-departure : goal.invariant-loop-departure
invariant-loop-departure g l = record {
  passed : HasPassed (g.W.Sink.taken l.fn.writer) (g.W.Sink.taken l.writer) (g.W.Sink.failures l.fn.writer) (g.W.Sink.failures l.writer)
      l.fn.lines (flat_map (departure_text l.fn.several l.fn.device) l.departures) (flat_map (departure_text l.fn.several l.fn.device) (drop l.departure-index l.departures)) l.lines;
  room : length l.line ≡ 128;
}
