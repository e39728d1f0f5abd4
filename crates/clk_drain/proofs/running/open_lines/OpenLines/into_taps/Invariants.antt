use Rattle.std.specs.Prelude.{◌≡◌, map}
use Rattle.clk_drain.specs.Line.{LineLists}
use Rattle.clk_drain.proofs.running.open_lines.OpenLines.into_taps.Given as goal

abbrev pub invariant-loop-open_line : goal.invariant-loop-open_line
invariant-loop-open_line g l = l.taps.items ≡ map (λ (i : LineLists). i.tap) l.yielded
