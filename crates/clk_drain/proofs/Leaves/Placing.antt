-- The line of a leaf, by its place.
use Rattle.std.proofs.Common.{◌≡◌, ℕ, ◌<◌, ◌==◌, true, false, zero, suc, List, [], ◌∷◌, length, get_or, set, slice_get, Option, Some, None, refl, sym, arith, rules}
use Rattle.std.proofs.lemmas.List.{length-map}
use Rattle.std.proofs.Math.Seq.{map-set_same}
use Rattle.std.proofs.lemmas.Option.{slice_get-map, slice_get-get_or, slice_get_within}
use Rattle.std.specs.List.{AllByRecursion}
use Rattle.clk_packet.specs.declared.packet.Packet.{Packet}
use Rattle.clk_packet.specs.Lists.{AreRising}
use Rattle.clk_drain.specs.Line.{LineLists, leaves_of, pulling, pulling_all, packets_of, answered, PullsAt, has_line}
use Rattle.clk_drain.proofs.Leaves.AtLeaf.{below-at}
use Rattle.clk_drain.proofs.Leaves.Growing.{all-none}

pub other-are : (m n : ℕ) → m < n → ((m == n) ≡ false) × ((n == m) ≡ false)
other-are m n lt = search rules

-- a line of another leaf stays
pub stays : (leaf : ℕ) (got : Option Packet) (l : LineLists) → (leaf == l.leaf) ≡ false → pulling l (answered leaf got l.leaf) ≡ l
stays leaf got l e = search rules

all-stay : (leaf : ℕ) (got : Option Packet) (lines : List LineLists) → AllByRecursion (λ m. leaf < m) (leaves_of lines) → pulling_all (answered leaf got) lines ≡ lines
all-stay leaf got [] h = refl
all-stay leaf got (l ∷ lines) h = search (rules, (all-stay leaf got lines h.1))

-- The line at the place of a leaf pulled, and no other.
pulled-at : (lines : List LineLists) (leaf : ℕ) (got : Option Packet) (i : ℕ) (d : LineLists) → i < length lines → AreRising (leaves_of lines) → (get_or lines i d).leaf ≡ leaf
    → set lines i (pulling (get_or lines i d) (packets_of got)) ≡ pulling_all (answered leaf got) lines
pulled-at [] leaf got i d lt rise e = absurd (omega arith)
pulled-at (l ∷ lines) leaf got zero d lt rise e = search (rules, all-stay)
pulled-at (l ∷ lines) leaf got (suc i) d lt rise e = search (rules, (below-at (λ (l : LineLists). l.leaf) l.leaf lines i d (omega arith)), stays, other-are, (pulled-at lines leaf got i d (omega arith) rise.1 e))

-- An answer of none changes no tap.
none-pulled : (leaf : ℕ) (lines : List LineLists) → pulling_all (answered leaf None) lines ≡ lines
none-pulled leaf lines = search (rules, (all-none lines))

pub unanswered : (leaf : ℕ) (lines : List LineLists) → PullsAt lines leaf None lines
unanswered leaf lines = sym (none-pulled leaf lines)

-- a leaf at a place stands among the leaves
has-at : (lines : List LineLists) (leaf i : ℕ) (d : LineLists) → i < length lines → (get_or lines i d).leaf ≡ leaf → has_line lines leaf ≡ true
has-at [] leaf i d lt e = absurd (omega arith)
has-at (l ∷ lines) leaf zero d lt e = search rules
has-at (l ∷ lines) leaf (suc i) d lt e = search (rules, (has-at lines leaf i d (omega arith) e))

-- What a pull of the line that the search found for a leaf leaves.
pub record IsAsked (old : List LineLists) (leaf : ℕ) (got : Option Packet) (new : List LineLists) : Type 0 where
  pub rise : AreRising (leaves_of new)
  pub pulls : PullsAt old leaf got new
  pub has : has_line old leaf ≡ true

asked-there : (lines : List LineLists) (leaf : ℕ) (got : Option Packet) (place : ℕ) (d : LineLists) → AreRising (leaves_of lines) → place < length lines → (get_or lines place d).leaf ≡ leaf
    → IsAsked lines leaf got (set lines place (pulling (get_or lines place d) (packets_of got)))
asked-there lines leaf got place d rise lt e = search (rules, map-set_same, pulled-at, has-at)

-- the place of a leaf has a line
pub place-within : (lines : List LineLists) (leaf place : ℕ) → slice_get (leaves_of lines) place ≡ Some leaf → place < length lines
place-within lines leaf place found = let within = slice_get_within (leaves_of lines) place leaf found in let same = length-map lines (λ (l : LineLists). l.leaf) in omega (arith, within, same)

-- the line at the place of a leaf is at that leaf
pub leaf-at : (lines : List LineLists) (leaf place : ℕ) (d : LineLists) → slice_get (leaves_of lines) place ≡ Some leaf → (get_or lines place d).leaf ≡ leaf
leaf-at lines leaf place d found = search (rules, slice_get-map, (slice_get-get_or lines place d (place-within lines leaf place found)))

-- `line` is what was read at the place.
pub asked-at : (lines old : List LineLists) (leaf : ℕ) (got : Option Packet) (place : ℕ) (line new : LineLists) → lines ≡ old → AreRising (leaves_of lines) → slice_get (leaves_of lines) place ≡ Some leaf
    → line ≡ get_or lines place line → new ≡ pulling line (packets_of got) → IsAsked old leaf got (set lines place new)
asked-at lines old leaf got place line new is rise found read pulled = search (rules, (asked-there lines leaf got place line rise (place-within lines leaf place found) (leaf-at lines leaf place line found)))
