-- From which moment on a pull could emit a packet, as things stand (this project's own definitions).
use Rattle.std.specs.Prelude.{◌≡◌, ℕ, suc, ◌+◌, ◌≤◌, nat_le, ◌&&◌, ◌||◌, Bool, true, false, List, [], map, reverse, Option, Some, None, is_some, IfSome, MatchOption, ⊤}
use Rattle.std.specs.List.{AllByRecursion, list_any, range_with_len}
use Rattle.clk_sched.specs.declared.visit.Visit.{Visit}
use Rattle.clk_packet.specs.Scheduler.{Scheduler, shaper}
use Rattle.clk_sched.specs.Tree.{Row, end, leaf, node, Tree, root, nodes, width}
use Rattle.clk_sched.specs.Turns.{Turn, visits_before}
use Rattle.clk_sched.specs.Heads.{head_at}
use Rattle.clk_sched.specs.Laws.{Manner, in_order, with_heads, manner}
use Rattle.clk_sched.specs.Laws.Shaper.{keeps_since_each}
use Rattle.clk_sched.specs.Log.{pulls, turn, moment_of, visits_of, result_of}
use Rattle.clk_sched.specs.Answers.{tree_queue}
use Rattle.clk_sched.specs.Step.{IsOnePullMore}

-- the turns of a node in a log, the latest first
abbrev pub turns_in : List Visit → ℕ → List Turn
turns_in log x = map (turn x) (reverse (pulls log))

-- Whether a scheduler, after some turns, lets a packet through at a moment: a Shaper if it has room, and any other always.
abbrev pub lets_through : Scheduler → List Turn → ℕ → Bool
lets_through (shaper rate burst) turns moment = keeps_since_each rate burst moment [] turns
lets_through class turns moment = true

-- whether a scheduler over so many inputs holds a head after some turns
abbrev pub holds_head : Manner → ℕ → List Turn → Bool
holds_head (in_order order) inputs turns = false
holds_head (with_heads turn_of covers) inputs turns = list_any (λ i. is_some (head_at i (visits_before turns))) (range_with_len 0 inputs)

-- Whether a pull at a moment could emit a packet from a row, whose schedulers are numbered from `next` on. It could if a queue of the row
-- is backlogged, or if a scheduler lets packets through and either holds a head or could emit a packet from below.
abbrev pub could_emit : (ℕ → List Turn) → (ℕ → Bool) → (moment next : ℕ) → Row → Bool
could_emit turns backlogged moment next end = false
could_emit turns backlogged moment next (leaf q row) = backlogged q || could_emit turns backlogged moment next row
could_emit turns backlogged moment next (node class inputs row) =
    (lets_through class (turns next) moment
    && (holds_head (manner class (width inputs)) (width inputs) (turns next) || could_emit turns backlogged moment (suc next) inputs))
    || could_emit turns backlogged moment (suc (next + nodes inputs)) row

-- whether a pull of a tree could emit a packet after a log
abbrev pub tree_could_emit : Tree → List Visit → (ℕ → Bool) → ℕ → Bool
tree_could_emit tree log backlogged moment = could_emit (turns_in log) backlogged moment 1 (root tree)

-- whether there is a due moment, and it has come
abbrev pub has_come : Option ℕ → ℕ → Bool
has_come None moment = false
has_come (Some due) moment = nat_le due moment

-- From the moment `from` on, something is possible exactly from the due moment on; if there is no due moment, it is never possible.
pub record IsDue (possible : ℕ → Bool) (from : ℕ) (due : Option ℕ) : Type 0 where
  pub each : (moment : ℕ) → from ≤ moment → possible moment ≡ has_come due moment
  pub later : IfSome due (λ moment. from ≤ moment)

-- a pull got packets from backlogged queues alone
abbrev pub GetsFromBacklogged : Tree → (ℕ → Bool) → List Visit → Type 0
GetsFromBacklogged tree backlogged pull =
    AllByRecursion (λ (v : Visit). MatchOption (tree_queue tree v) ⊤ (λ q. is_some v.got ≡ true → backlogged q ≡ true)) pull

-- A pull that gets packets from backlogged queues alone emits none at a moment at which none could be emitted.
abbrev pub EmitsOnceDue : Tree → Type 0
EmitsOnceDue tree =
    (log pull : List Visit) (backlogged : ℕ → Bool) → IsOnePullMore tree log pull → GetsFromBacklogged tree backlogged pull
    → tree_could_emit tree log backlogged (moment_of pull) ≡ false → result_of (visits_of 0 pull) ≡ None
