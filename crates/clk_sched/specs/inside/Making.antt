-- The visits that a DRRSched makes in its turn, as far as it got.
use Rattle.std.specs.Prelude.{◌≡◌, ◌⊎◌, ℕ, suc, ◌+◌, ◌<◌, ◌≤◌, false, List, [], ◌∷◌, length, map, Option, IfSome, slice_get}
use Rattle.std.specs.List.{AllByRecursion}
use Rattle.clk_packet.specs.declared.packet.Packet.{Packet}
use Rattle.clk_sched.specs.declared.visit.Visit.{Visit}
use Rattle.clk_sched.specs.declared.session.inputs.Inputs.{Inputs}
use Rattle.clk_sched.specs.declared.session.drr.Deficits.{Deficits}
use Rattle.clk_sched.specs.declared.session.nodes.Nodes.{Nodes}
use Rattle.clk_sched.specs.Turns.{EachAfter}
use Rattle.clk_sched.specs.Heads.{LooksAtHeads}
use Rattle.clk_sched.specs.Laws.Deficit.{next_input, deficit_covers}
use Rattle.clk_sched.specs.Answers.{Answers}
use Rattle.clk_sched.specs.inside.Holds.Deficit.{HoldsDeficits}
use Rattle.clk_sched.specs.inside.Places.{edges_of, edges_in, queue_asked}
use Rattle.clk_sched.specs.inside.Pulling.{AreApart, input_of, CanPull, Keeps, AsksAll, added}

-- what follows put onto what came before, which has the latest first
abbrev pub onto : {X : Type 0} → List X → List X → List X
onto [] earlier = earlier
onto (x ∷ xs) earlier = onto xs (x ∷ earlier)

-- Input i is j places after input s, wrapping round after n inputs.
pub record IsPlace (n s j i : ℕ) : Type 0 where
  pub within : i < n
  pub place : (s + j ≡ i) ⊎ (s + j ≡ i + n)

-- A DRRSched made these visits of its own, to inputs of which it names none twice.
pub record HasMade {S : Type 0} (gives : S → ℕ → Option Packet → S → Type 0) (old new : Nodes) (before now : S) (x : ℕ) (first last : Deficits) (own : List Visit) : Type 0 where
  pub keeps : Keeps (suc x) old new (edges_in old.inputs.items x (map input_of own))
  pub answers : Answers gives (queue_asked old.inputs.items) before (added old new) now
  pub asks : AsksAll old new x (map input_of own) own
  pub length_is : length last.row.items ≡ length first.row.items
  pub within : AllByRecursion (λ (v : Visit). v.input < length first.row.items) own
  pub apart : AreApart input_of own
  pub lawful : (quanta : List ℕ) (inputs : ℕ) (earlier : List Visit) → HoldsDeficits quanta inputs earlier first
      → EachAfter (LooksAtHeads (next_input inputs) (deficit_covers quanta)) earlier own × HoldsDeficits quanta inputs (onto own earlier) last

-- A visit went to one of `count` inputs from input s on, wrapping round after n inputs.
pub record IsAround (n s count : ℕ) (v : Visit) : Type 0 where
  pub places : ℕ
  pub below : places < count
  pub place : IsPlace n s places v.input

-- A DRRSched made `count` visits in its turn, to one input after another, and none passed a packet.
pub record IsMaking {S : Type 0} (gives : S → ℕ → Option Packet → S → Type 0) (old new : Nodes) (before now : S) (x : ℕ) (first last : Deficits) (count : ℕ) : Type 0 where
  pub own : List Visit
  pub made : HasMade gives old new before now x first last own
  pub count_is : length own ≡ count
  pub vain : AllByRecursion (λ (v : Visit). v.passed ≡ false) own
  pub around : AllByRecursion (IsAround (length first.row.items) first.cursor count) own
  pub next : IsPlace (length first.row.items) first.cursor count last.cursor

-- the row of a DRRSched has as many inputs as its node
abbrev pub RowFits : List Inputs → ℕ → Deficits → Type 0
RowFits table x d = IfSome (slice_get table x) (λ (p : Inputs). length d.row.items ≡ length p.each.items)

-- A DRRSched is in its turn, which began with the nodes `first`, and may go on by `more` visits.
pub record MayGoOn {S : Type 0} (gives : S → ℕ → Option Packet → S → Type 0) (n : Nodes) (q : S) (x : ℕ) (d : Deficits) (more : ℕ) : Type 0 where
  pub first : Nodes
  pub before : S
  pub begun : Deficits
  pub looks : ℕ
  pub can : CanPull first x (edges_of first.inputs.items x)
  pub fits : RowFits first.inputs.items x begun
  pub making : IsMaking gives first n before q x begun d looks
  pub within : looks + more ≤ length begun.row.items

-- A DRRSched in its turn, however many visits it had made, went on by `more` visits that passed none.
abbrev pub GoesOnInVain : {S : Type 0} → (S → ℕ → Option Packet → S → Type 0) → Nodes → Nodes → S → ℕ → Deficits → Deficits → ℕ → Type 0
GoesOnInVain gives old new q x held holds more =
    (first : Nodes) (before : _) (begun : Deficits) (looks : ℕ) → IsMaking gives first old before q x begun held looks → looks + more ≤ length begun.row.items → IsMaking gives first new before q x begun holds (looks + more)
