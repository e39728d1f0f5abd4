use Rattle.std.specs.Prelude.{◌≡◌, drop}
use Rattle.clk_lint.specs.Warnings.{twin_of}
use Rattle.clk_lint.proofs.shares.twin_of.Given as goal

-- it is the first among the inputs that are left
abbrev pub invariant-loop-input : goal.invariant-loop-input
invariant-loop-input l = twin_of l.tickets l.input (drop l.input l.before) ≡ twin_of l.tickets 0 l.before
