-- What the closing bound is enough for: a drain over queues that lose nothing.
use Rattle.std.specs.Prelude.{◌≡◌, ◌≢◌, ℕ, suc, ◌+◌, ◌<◌, ◌≤◌, List, [], ◌∷◌, ◌++◌, length, map, reverse, Option, Some, None}
use Rattle.std.specs.List.{flat_map, range_with_len}
use Rattle.clk_packet.specs.declared.packet.Packet.{Packet}
use Rattle.clk_sched.specs.declared.visit.Visit.{Visit}
use Rattle.clk_sched.specs.Tree.{Tree, root, leaves}
use Rattle.clk_sched.specs.Log.{pulls, moment_of}
use Rattle.clk_sched.specs.Run.{IsRun}
use Rattle.clk_sched.specs.Bound.{closing_bound}
use Rattle.clk_sched.specs.Results.{heads}
use Rattle.clk_sched.specs.Choice.{answers_of}
use Rattle.clk_sched.specs.Session.{latest_moment, given_in}

-- A queue that loses nothing gives these answers while it goes from `held` packets to `rest`. Each packet that it gives leaves one fewer,
-- and it gives none only if it holds none.
abbrev pub GivesOut : ℕ → List (Option Packet) → ℕ → Type 0
GivesOut held [] rest = held ≡ rest
GivesOut held (None ∷ answers) rest = (held ≡ 0) × GivesOut held answers rest
GivesOut held (Some _ ∷ answers) rest = (fewer : ℕ) × (held ≡ suc fewer) × GivesOut fewer answers rest

-- What asking one leaf does: the leaf loses nothing, and no other leaf changes.
pub record TakesOne (old new : ℕ → ℕ) (leaf : ℕ) (got : Option Packet) : Type 0 where
  pub here : GivesOut (old leaf) (got ∷ []) (new leaf)
  pub others : (other : ℕ) → other ≢ leaf → new other ≡ old other

-- Asking loses nothing: a packet given leaves one fewer at its leaf, only an empty leaf gives none, and no other leaf changes. Counts are
-- enough, since they are all that is known of a queue that threads share.
abbrev pub LosesNothing : {S : Type 0} → (S → ℕ → Option Packet → S → Type 0) → (S → ℕ → ℕ) → Type 0
LosesNothing {S = S} gives holds = (a : S) (leaf : ℕ) (got : Option Packet) (b : S) → gives a leaf got b → TakesOne (holds a) (holds b) leaf got

-- how many packets some queues hold in all
abbrev pub held_in_all : (ℕ → ℕ) → List ℕ → ℕ
held_in_all held [] = 0
held_in_all held (q ∷ queues) = held q + held_in_all held queues

-- A run goes on by the pulls of a drain over queues that lose nothing. The pulls are one tick apart, the first one tick after `moment`. The
-- queues hold `held` packets before these pulls, and `rest` after them.
pub record IsClosing (tree : Tree) (log : List Visit) (moment : ℕ) (held rest : ℕ → ℕ) (more : List (List Visit)) : Type 0 where
  pub run : IsRun tree (log ++ flat_map (λ pull. pull) more)
  pub pulls_are : pulls (log ++ flat_map (λ pull. pull) more) ≡ pulls log ++ more
  pub moments : map moment_of more ≡ range_with_len (moment + 1) (length more)
  pub gives : (q : ℕ) → GivesOut (held q) (answers_of tree q (flat_map (λ pull. pull) more)) (rest q)

-- how many packets queues and heads hold when a drain begins
abbrev pub left_in : Tree → List Visit → (ℕ → ℕ) → ℕ
left_in tree log held = held_in_all held (leaves (root tree)) + length (heads tree log)

-- The closing bound is enough: while packets are left in queues or heads, a drain has made fewer pulls than the bound. So a session that
-- drains what loses nothing, and is told exactly what is left, never stops short.
abbrev pub BoundIsEnough : Tree → Type 0
BoundIsEnough tree =
    (log : List Visit) (moment : ℕ) (held rest : ℕ → ℕ) (more : List (List Visit)) → IsRun tree log → latest_moment (reverse (pulls log)) ≤ moment → IsClosing tree log moment held rest more
    → length (given_in more) < left_in tree log held → length more < closing_bound tree (left_in tree log held)
