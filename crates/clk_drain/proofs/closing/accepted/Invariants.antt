use Rattle.std.proofs.Common.{◌≡◌, ◌+◌, drop}
use Rattle.clk_drain.specs.Closing.{accepted_over}
use Rattle.clk_drain.proofs.closing.accepted.Given as goal

-- what was counted and what is left to count are all
abbrev pub invariant-loop-line : goal.invariant-loop-line
invariant-loop-line l = l.accepted + accepted_over (drop l.line-index l.lines) ≡ accepted_over l.lines
