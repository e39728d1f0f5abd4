-- What a scheduler that holds heads does at one of its inputs.
use Rattle.std.specs.Prelude.{◌≡◌, ℕ, suc, ◌+◌, ◌%◌, ◌<◌, ◌≤◌, Bool, false, List, [], ◌∷◌, length, Option, Some, None, slice_get}
use Rattle.std.specs.Option.{option_map_or}
use Rattle.clk_packet.specs.declared.packet.Packet.{Packet}
use Rattle.clk_sched.specs.declared.visit.Visit.{Visit}
use Rattle.clk_sched.specs.declared.session.drr.Deficits.{Deficits}
use Rattle.clk_sched.specs.declared.session.drr.Served.{Served}
use Rattle.clk_sched.specs.declared.session.nodes.Nodes.{Nodes}
use Rattle.clk_sched.specs.inside.Logged.{with_visit}
use Rattle.clk_sched.specs.Heads.{LooksAtHeads}
use Rattle.clk_sched.specs.Laws.Deficit.{next_input, deficit_covers}
use Rattle.clk_sched.specs.inside.Holds.Deficit.{HoldsDeficits}
use Rattle.clk_sched.specs.Answers.{Answers}
use Rattle.clk_sched.specs.inside.Places.{edges_at, queue_asked}
use Rattle.clk_sched.specs.inside.Pulling.{AsksAll, Keeps, added}
use Rattle.clk_sched.specs.inside.Turning.{IsIdle}

-- a visit of a node in the pull that nodes are in
abbrev pub looking : Nodes → ℕ → ℕ → Option Packet → Bool → Bool → Visit
looking n x i got fresh passed = record { pull = n.pull; moment = n.moment; got = got; node = x; input = i; fresh = fresh; passed = passed }

-- One visit was logged, and nothing else changed.
pub record Logs (old new : Nodes) (v : Visit) : Type 0 where
  pub inputs : new.inputs.items ≡ old.inputs.items
  pub states : new.states.items ≡ old.states.items
  pub pull : new.pull ≡ old.pull
  pub moment : new.moment ≡ old.moment
  pub log : new.log ≡ with_visit old.log v

-- whether there is a packet and `covers` holds of it
abbrev pub is_covered : (Packet → Bool) → Option Packet → Bool
is_covered covers o = option_map_or covers o false

-- the packet that is held as the head of the input whose turn it is, if there is one
abbrev pub IsHead : Deficits → Option Packet → Type 0
IsHead d head = (s : Served) → slice_get d.row.items d.cursor ≡ Some s → s.head ≡ head

-- The next so many inputs, from the one whose turn it is on, hold no head.
abbrev pub HoldsNoneAhead : Deficits → ℕ → Type 0
HoldsNoneAhead d count = (i : ℕ) (s : Served) → i < count → slice_get d.row.items (d.cursor + i) ≡ Some s → s.head ≡ None

-- A DRRSched took what it got at the input whose turn it is, and passed it or not.
pub record Settles (old new : Deficits) (got : Option Packet) (passed : Bool) : Type 0 where
  pub length_is : length new.row.items ≡ length old.row.items
  pub moves : passed ≡ false → new.cursor ≡ (old.cursor + 1) % length old.row.items
  pub in_vain : got ≡ None → passed ≡ false
  pub covered : (quanta : List ℕ) (inputs : ℕ) (before : List Visit) → HoldsDeficits quanta inputs before old → passed ≡ is_covered (deficit_covers quanta before (next_input inputs before)) got
  pub holds : (quanta : List ℕ) (inputs : ℕ) (before : List Visit) (v : Visit) → HoldsDeficits quanta inputs before old → v.input ≡ next_input inputs before → v.got ≡ got → v.passed ≡ passed
      → HoldsDeficits quanta inputs (v ∷ before) new

-- A DRRSched at node x went on by one visit, to the input whose turn it was, in its manner.
pub record Looks (old new : Nodes) (x : ℕ) (before after : Deficits) (got : Option Packet) (passed : Bool) : Type 0 where
  pub visit : Visit
  pub input : visit.input ≡ before.cursor
  pub gets : visit.got ≡ got
  pub passes : visit.passed ≡ passed
  pub asks : AsksAll old new x (before.cursor ∷ []) (visit ∷ [])
  pub lawful : (quanta : List ℕ) (inputs : ℕ) (earlier : List Visit) → HoldsDeficits quanta inputs earlier before → LooksAtHeads (next_input inputs) (deficit_covers quanta) earlier visit
  pub holds : (quanta : List ℕ) (inputs : ℕ) (earlier : List Visit) → HoldsDeficits quanta inputs earlier before → HoldsDeficits quanta inputs (visit ∷ earlier) after

-- A DRRSched at node x looked at the input whose turn it was: what stays, what the queues gave, and what it made of that.
pub record LooksAt {S : Type 0} (gives : S → ℕ → Option Packet → S → Type 0) (old new : Nodes) (before now : S) (x : ℕ) (held holds : Deficits) (got : Option Packet) (passed : Bool) : Type 0 where
  pub keeps : Keeps (suc x) old new (edges_at old.inputs.items x held.cursor)
  pub answers : Answers gives (queue_asked old.inputs.items) before (added old new) now
  pub length_is : length holds.row.items ≡ length held.row.items
  pub moves : passed ≡ false → holds.cursor ≡ (held.cursor + 1) % length held.row.items
  pub looks : Looks old new x held holds got passed

-- The next `idle` inputs of a DRRSched, from the one whose turn it is on, are idle.
pub record AreIdleAhead {S : Type 0} (gives : S → ℕ → Option Packet → S → Type 0) (n : Nodes) (q : S) (x : ℕ) (d : Deficits) (idle : ℕ) : Type 0 where
  pub within : d.cursor + idle ≤ length d.row.items
  pub each : (i : ℕ) → i < idle → IsIdle gives n q x (d.cursor + i)
