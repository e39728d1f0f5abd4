use Rattle.std.specs.Prelude.{◌≡◌, ◌++◌, drop, slice_get}
use Rattle.std.specs.List.{flat_map}
use Rattle.clk_lint.specs.inside.Kept.{plan_in, trace_in}
use Rattle.clk_lint.specs.Warnings.{sender_warnings_at}
use Rattle.clk_lint.proofs.own.push_queue.Given as goal

-- what is found and what is left to find are all
abbrev pub invariant-loop-source : goal.invariant-loop-source
invariant-loop-source l =
    l.found.items ++ flat_map (λ s. sender_warnings_at (trace_in l.judged) l.place l.capacity (slice_get (plan_in l.judged) s)) (drop l.source-index l.sources)
    ≡ l.initial.found.items ++ flat_map (λ s. sender_warnings_at (trace_in l.judged) l.place l.capacity (slice_get (plan_in l.judged) s)) l.sources
