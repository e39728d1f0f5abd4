-- What each element of a plan sends.
use Rattle.std.specs.Prelude.{ℕ, List, [], map, Some, None}
use Rattle.clk_tree.specs.Plan.{Planned}
use Rattle.clk_lint.specs.Load.{Trace, longest_sent}

-- the length of the longest packet that each element itself sends, by its place; without a trace of no element
abbrev pub sent_of : List Planned → Trace → List ℕ
sent_of plan None = []
sent_of plan (Some traces) = map (λ (e : Planned). longest_sent traces e.class) plan
