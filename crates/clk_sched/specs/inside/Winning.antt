-- What a StrideSched holds once an input won.
use Rattle.std.specs.Prelude.{◌≡◌, ℕ, ◌+◌, List, ◌∷◌, map, take, Option, None, slice_get}
use Rattle.std.specs.Global.{Box}
use Rattle.clk_packet.specs.declared.packet.Packet.{Packet}
use Rattle.clk_sched.specs.declared.visit.Visit.{Visit}
use Rattle.clk_sched.specs.declared.session.nodes.Nodes.{Nodes}
use Rattle.clk_sched.specs.declared.session.state.State.TheVariants.{Stride}
use Rattle.clk_sched.specs.declared.session.stride.Passes.{Passes}
use Rattle.clk_sched.specs.Turns.{Turn, giver}
use Rattle.clk_sched.specs.inside.Holds.Stride.{HoldsPasses}
use Rattle.clk_sched.specs.inside.Places.{edges_of}
use Rattle.clk_sched.specs.inside.Pulling.{CanPull}
use Rattle.clk_sched.specs.inside.Ranks.{inputs_in}
use Rattle.clk_sched.specs.inside.Turning.{with_state, HadTurn, HasAskedAll}

-- what is held after a turn that the input at a place of the row won
abbrev pub IsWonAt : Passes → Passes → ℕ → Type 0
IsWonAt held holds place =
    (tickets : List ℕ) (turns : List Turn) (t : Turn) → HoldsPasses tickets turns held → map (λ (v : Visit). v.input) t.visits ≡ take (place + 1) (inputs_in held.row.items)
    → giver t.visits ≡ slice_get (inputs_in held.row.items) place → HoldsPasses tickets (t ∷ turns) holds

-- The first input of a row won, and what is held stands in its place.
pub record WinsFirst (old new : Nodes) (x : ℕ) (held : Box Passes) : Type 0 where
  pub holds : Box Passes
  pub is : new ≡ with_state old x (Stride holds)
  pub won : IsWonAt held.value holds.value 0

-- A StrideSched that asked so many inputs of its row, which gave nothing, had its turn, whatever nodes that began with.
abbrev pub TurnsOn : {S : Type 0} → (S → ℕ → Option Packet → S → Type 0) → Nodes → Nodes → S → S → ℕ → ℕ → Passes → Passes → Option Packet → Type 0
TurnsOn gives old new q now x asked held_before held_after got =
    (first : Nodes) (before : _) (held holds : Box Passes) → CanPull first x (edges_of first.inputs.items x) → HasAskedAll gives first old before q x (take asked (inputs_in held_before.row.items)) None
    → held.value ≡ held_before → holds.value ≡ held_after → HadTurn gives first new before now x (Stride held) (Stride holds) got
