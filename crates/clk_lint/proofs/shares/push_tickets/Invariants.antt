use Rattle.std.specs.Prelude.{◌≡◌, ◌++◌, drop}
use Rattle.clk_lint.specs.Warnings.{stride_warnings}
use Rattle.clk_lint.proofs.shares.push_tickets.Given as goal

-- what is found and what is left to find are all
abbrev pub invariant-loop-input : goal.invariant-loop-input
invariant-loop-input l =
    l.found.items ++ stride_warnings l.place l.tickets l.input (drop l.input l.tickets) ≡ l.initial.found.items ++ stride_warnings l.place l.tickets 0 l.tickets
