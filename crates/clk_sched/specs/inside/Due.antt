-- What the walk over nodes finds out: from which moment on a pull could emit a packet.
use Rattle.std.specs.Prelude.{◌≡◌, ℕ, suc, ◌&&◌, ◌||◌, Bool, List, Option, Some, None, min}
use Rattle.clk_sched.specs.declared.session.inputs.Input.{Input}
use Rattle.clk_sched.specs.declared.session.nodes.Nodes.{Nodes}
use Rattle.clk_sched.specs.declared.session.state.State.{State}
use Rattle.clk_packet.specs.Scheduler.{Scheduler}
use Rattle.clk_sched.specs.Tree.{Row, width}
use Rattle.clk_sched.specs.Turns.{Turn}
use Rattle.clk_sched.specs.Laws.{manner}
use Rattle.clk_sched.specs.Due.{IsDue, could_emit, lets_through, holds_head}
use Rattle.clk_sched.specs.inside.Holds.OfClass.{Holds}
use Rattle.clk_sched.specs.inside.Holds.Shaper.{AreBefore}
use Rattle.clk_sched.specs.inside.Places.{inputs_of, EachHasInputs, StandsIn}
use Rattle.clk_sched.specs.inside.Pulling.{History, EachHolds, NodeHolds}

-- the sooner of two moments, each of which may be none
abbrev pub sooner_of : Option ℕ → Option ℕ → Option ℕ
sooner_of None other = other
sooner_of (Some a) None = Some a
sooner_of (Some a) (Some b) = Some (min a b)

-- A scheduler with this state lets packets through from a due moment on.
abbrev pub OpensAt : State → ℕ → ℕ → Type 0
OpensAt s moment opens = (class : Scheduler) (inputs : ℕ) (turns : List Turn) → Holds class inputs turns s → AreBefore moment turns → IsDue (lets_through class turns) moment (Some opens)

-- whether a scheduler with this state holds a head
abbrev pub HoldsHead : State → Bool → Type 0
HoldsHead s held = (class : Scheduler) (inputs : ℕ) (turns : List Turn) → Holds class inputs turns s → held ≡ holds_head (manner class inputs) inputs turns

-- From this moment on a pull could emit a packet from these inputs, as the nodes stand.
abbrev pub AreDue : Nodes → (ℕ → Bool) → List Input → Option ℕ → Type 0
AreDue n backlogged inputs due =
    (next : ℕ) (row : Row) (history : History) → inputs ≡ inputs_of next row → EachHasInputs n.inputs.items next row → EachHolds n.states.items history next row
    → ((y : ℕ) → AreBefore n.moment (history y)) → IsDue (λ moment. could_emit history backlogged moment next row) n.moment due

-- From this moment on a pull could emit a packet from a node, as it stands.
abbrev pub IsDueAt : Nodes → (ℕ → Bool) → ℕ → Option ℕ → Type 0
IsDueAt n backlogged x due =
    (class : Scheduler) (row : Row) (history : History) → StandsIn n.inputs.items x row → NodeHolds n.states.items history x class row → ((y : ℕ) → AreBefore n.moment (history y))
    → IsDue (λ moment. lets_through class (history x) moment && (holds_head (manner class (width row)) (width row) (history x) || could_emit history backlogged moment (suc x) row)) n.moment due
