use Rattle.std.proofs.Common.{◌≡◌, ◌+◌, drop}
use Rattle.clk_drain.specs.Closing.{evicted_over}
use Rattle.clk_drain.proofs.closing.evicted.Given as goal

-- what was counted and what is left to count are all
abbrev pub invariant-loop-line : goal.invariant-loop-line
invariant-loop-line l = l.evicted + evicted_over (drop l.line-index l.lines) ≡ evicted_over l.lines
