-- What a gathered line's queue holds, as its tap pulls.
use Rattle.std.proofs.Common.{◌≡◌, ◌≢◌, ℕ, ◌<◌, false, zero, suc, List, [], ◌∷◌, length, get_or, set, slice_get, Option, Some, None, refl, arith, rules}
use Rattle.std.proofs.lemmas.Grind.{common_steps}
use Rattle.std.specs.List.{AllByRecursion}
use Rattle.std.proofs.lemmas.Bool.Decides.{nat_tests}
use Rattle.std.proofs.lemmas.List.{length-append}
use Rattle.clk_packet.specs.declared.packet.Packet.{Packet}
use Rattle.clk_sched.specs.Closing.{GivesOut, TakesOne}
use Rattle.clk_packet.specs.Lists.{AreRising}
use Rattle.clk_drain.specs.Line.{LineLists, leaves_of, pulling, pulling_all, packets_of, answered, PullsAt, has_line}
use Rattle.clk_drain.specs.Parts.{HasGathered, IsWithin, HasAllTaken}
use Rattle.clk_drain.specs.inside.Parts.{IsGathered, held_of, held_at}
use Rattle.clk_drain.proofs.Leaves.AtLeaf.{below-at}
use Rattle.clk_drain.proofs.Leaves.Placing.{other-are, place-within, leaf-at}

-- One answer of a line, where no more was taken than came, and none came only where all was.
line-gives : (l : LineLists) (got : Option Packet) → IsWithin (pulling l (packets_of got)) → (got ≡ None → HasAllTaken (pulling l (packets_of got))) → GivesOut (held_of l) (got ∷ []) (held_of (pulling l (packets_of got)))
line-gives l got within none = search (rules, length-append)

-- It is that of its leaf.
leaf-gives : (lines : List LineLists) (leaf : ℕ) (got : Option Packet) (i : ℕ) (d : LineLists) → i < length lines → AreRising (leaves_of lines) → (get_or lines i d).leaf ≡ leaf
    → GivesOut (held_of (get_or lines i d)) (got ∷ []) (held_of (pulling (get_or lines i d) (packets_of got))) → GivesOut (held_at lines leaf) (got ∷ []) (held_at (pulling_all (answered leaf got) lines) leaf)
leaf-gives [] leaf got i d lt rise e h = absurd (omega arith)
leaf-gives (l ∷ lines) leaf got zero d lt rise e h = search rules
leaf-gives (l ∷ lines) leaf got (suc i) d lt rise e h = search (rules, (below-at (λ (l : LineLists). l.leaf) l.leaf lines i d (omega arith)), other-are, (leaf-gives lines leaf got i d (omega arith) rise.1 e h))

-- no other leaf's queue changes
held-elsewhere : (lines : List LineLists) (leaf : ℕ) (got : Option Packet) (q : ℕ) → q ≢ leaf → held_at (pulling_all (answered leaf got) lines) q ≡ held_at lines q
held-elsewhere [] leaf got q other = refl
held-elsewhere (l ∷ lines) leaf got q other = search (rules, (held-elsewhere lines leaf got q other))

-- Lines that are gathered stay so.
gathered-at : (lines : List LineLists) (i : ℕ) (d : LineLists) → i < length lines → AllByRecursion IsGathered lines → IsGathered (get_or lines i d)
gathered-at [] i d lt h = absurd (omega arith)
gathered-at (l ∷ lines) zero d lt h = h.0
gathered-at (l ∷ lines) (suc i) d lt h = gathered-at lines i d (omega arith) h.1

gathered-set : (lines : List LineLists) (i : ℕ) (new : LineLists) → IsGathered new → AllByRecursion IsGathered lines → AllByRecursion IsGathered (set lines i new)
gathered-set [] i new is h = h
gathered-set (l ∷ lines) i new is h = grind (arith, common_steps, nat_tests, (gathered-set lines i new is h.1))

-- What a pull of one line leaves of gathered lines.
pub record AreTaken (old : List LineLists) (leaf : ℕ) (got : Option Packet) (new : List LineLists) : Type 0 where
  pub gathered : AllByRecursion IsGathered new
  pub takes : TakesOne (held_at old) (held_at new) leaf got

-- `line` is what was read at the place and pulled.
pub taken-at : (lines : List LineLists) (leaf : ℕ) (got : Option Packet) (place : ℕ) (line new : LineLists) → AreRising (leaves_of lines) → slice_get (leaves_of lines) place ≡ Some leaf
    → line ≡ get_or lines place line → new ≡ pulling line (packets_of got) → (HasGathered new → IsWithin new) → (got ≡ None → HasGathered new → HasAllTaken new) → PullsAt lines leaf got (set lines place new) → AllByRecursion IsGathered lines
    → AreTaken lines leaf got (set lines place new)
taken-at lines leaf got place line new rise found read pulled within none pulls all = search (rules, place-within, leaf-at, gathered-at, line-gives, gathered-set, leaf-gives, held-elsewhere)

-- A leaf that has no line holds nothing, and no line changes.
none-held : (lines : List LineLists) (q : ℕ) → has_line lines q ≡ false → held_at lines q ≡ 0
none-held [] q h = refl
none-held (l ∷ lines) q h = search (rules, (none-held lines q))

pub none-taken : (lines : List LineLists) (leaf : ℕ) → has_line lines leaf ≡ false → AllByRecursion IsGathered lines → AreTaken lines leaf None lines
none-taken lines leaf none all = search (rules, none-held)
