-- What contracts see of the log of a session, whether its visits are kept in memory or not.
use Rattle.std.specs.Prelude.{ℕ, ◌-◌, Bool, List, [], ◌∷◌, ◌++◌, length, map, None}
use Rattle.std.specs.List.{range_with_len}
use Rattle.clk_sched.specs.declared.visit.Visit.{Visit}
use Rattle.clk_sched.specs.declared.session.idle.IdleInputs.{IdleInputs}
use Rattle.clk_sched.specs.declared.session.keeps.Keeps.{Keeps}
use Rattle.clk_sched.specs.Log.{asking}

-- What is kept of the visits: whether all are kept, as a list or packed, and how many of them were dropped; and whether those of the latest
-- pull are kept. `start` is how many visits there were before that pull, and `room` for how many visits of a pull there is memory.
pub record Keeping : Type 0 where
  pub keeps : Bool
  pub packs : Bool
  pub gone : ℕ
  pub latest : Bool
  pub start : ℕ
  pub room : ℕ

-- what a new log keeps
abbrev pub kind_made : Keeps → ℕ → Keeping
kind_made keeps room = record { keeps = keeps.visits; packs = keeps.packed; gone = 0; latest = keeps.latest; start = 0; room = room }

-- every visit so far, for how many more there is room, and what is kept of them
pub record Logged : Type 0 where
  pub items : List Visit
  pub spare : ℕ
  pub kind : Keeping

-- a log with one visit more
abbrev pub with_visit : Logged → Visit → Logged
with_visit log v = record { items = log.items ++ v ∷ []; spare = log.spare - 1; kind = log.kind }

-- the visits of inputs that gave nothing
abbrev pub idle_visits : IdleInputs → List Visit
idle_visits idle = map (λ i. asking idle.pull idle.moment idle.node i None) (range_with_len idle.first idle.count)

-- a log to which the visits of inputs that gave nothing were added
abbrev pub with_idle : Logged → IdleInputs → Logged
with_idle log idle = record { items = log.items ++ idle_visits idle; spare = log.spare - idle.count; kind = log.kind }

-- a log with some visits more
abbrev pub with_visits : Logged → List Visit → Logged
with_visits log visits = record { items = log.items ++ visits; spare = log.spare - length visits; kind = log.kind }

-- a log in which a pull begins, with room for so many visits
abbrev pub with_pull : Logged → ℕ → Logged
with_pull log n = record { items = log.items; spare = n; kind = record log.kind { start = length log.items } }

-- a log whose visits so far were dropped
abbrev pub with_none : Logged → Logged
with_none log = record { items = log.items; spare = log.spare; kind = record log.kind { gone = length log.items } }
