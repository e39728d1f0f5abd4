-- The ranks of a StrideSched's inputs, and what a pull does to them.
use Rattle.std.specs.Prelude.{◌≡◌, ℕ, zero, suc, ◌+◌, ◌-◌, ◌<◌, ◌≤◌, ◌==◌, ◌&&◌, ◌||◌, Bool, true, nat_lt, nat_le, List, [], ◌∷◌, map, length, ⊤, slice_get, Some, if◌then◌else◌}
use Rattle.std.specs.List.{AllByRecursion, AllByRecursion-prop, range_with_len}
use Rattle.std.specs.Coded.{×_prop, Unit-prop, le_prop}

-- an input with its pass
pub record Ranked : Type 0 where
  pub pass : ℕ
  pub input : ℕ

-- an input with its pass, to which what was taken is added again
abbrev pub with_pass : ℕ → Ranked → ℕ × ℕ
with_pass taken r = (r.input, r.pass + taken)

-- the greatest stride, that of one ticket. No pass is greater between pulls.
abbrev pub greatest_stride : ℕ
greatest_stride = 65536

-- a rank of one of so many inputs between pulls
abbrev pub IsRankOf : ℕ → Ranked → Type 0
IsRankOf inputs r = (r.input < inputs) × (r.pass ≤ greatest_stride)

-- the inputs of ranks
abbrev pub inputs_in : List Ranked → List ℕ
inputs_in ranks = map (λ (r : Ranked). r.input) ranks

-- the inputs of these ranks follow one another
abbrev pub FollowOneAnother : List Ranked → Type 0
FollowOneAnother [] = ⊤
FollowOneAnother (r ∷ others) = inputs_in (r ∷ others) ≡ range_with_len r.input (length (r ∷ others))

-- no pass is above one after it
abbrev pub HasRisingPasses : List Ranked → Type 0
HasRisingPasses [] = ⊤
HasRisingPasses (r ∷ others) = AllByRecursion (λ (other : Ranked). r.pass ≤ other.pass) others × HasRisingPasses others

pub HasRisingPasses-prop : (ranks : List Ranked) → IsProp (HasRisingPasses ranks)
HasRisingPasses-prop [] = Unit-prop
HasRisingPasses-prop (r ∷ others) = ×_prop (AllByRecursion-prop _ (λ other. le_prop) others) (HasRisingPasses-prop others)

-- whether a rank stands before another by (pass, index), or is the same
abbrev pub is_up_to : Ranked → Ranked → Bool
is_up_to r other = nat_lt r.pass other.pass || ((r.pass == other.pass) && nat_le r.input other.input)

-- each rank stands before all after it, or is the same
abbrev pub AreUpTo : List Ranked → Type 0
AreUpTo [] = ⊤
AreUpTo (r ∷ others) = AllByRecursion (λ (other : Ranked). is_up_to r other ≡ true) others × AreUpTo others

-- ranks in rising order, and one more in its place
abbrev pub put_rank : Ranked → List Ranked → List Ranked
put_rank r [] = r ∷ []
put_rank r (other ∷ others) = if is_up_to r other then r ∷ other ∷ others else other ∷ put_rank r others

-- a rank stands before another by (pass, index), and is another
abbrev pub IsBefore : Ranked → Ranked → Type 0
IsBefore r other = (r.pass ≤ other.pass) × (r.pass ≡ other.pass → r.input < other.input)

-- each rank stands before all after it
abbrev pub AreInOrder : List Ranked → Type 0
AreInOrder [] = ⊤
AreInOrder (r ∷ others) = AllByRecursion (IsBefore r) others × AreInOrder others

-- the rank of the same input with another pass
abbrev pub at_pass : ℕ → Ranked → Ranked
at_pass pass r = record { pass = pass; input = r.input }

-- ranks that are put in their places among others, one by one, from the last to the first
abbrev pub put_all : List Ranked → List Ranked → List Ranked
put_all [] others = others
put_all (r ∷ ranks) others = put_rank r (put_all ranks others)

-- The ranks after a pull that the rank at a place won, with its pass and its stride. It and those before it stand in their new places.
abbrev pub after_win : ℕ → ℕ → ℕ → List Ranked → List Ranked
after_win pass stride place [] = []
after_win pass stride zero (r ∷ others) = put_rank (at_pass (pass + stride) r) others
after_win pass stride (suc place) (r ∷ others) = put_rank (at_pass pass r) (after_win pass stride place others)

-- the first pass, which is the least if passes rise
abbrev pub first_pass : List Ranked → ℕ
first_pass [] = 0
first_pass (r ∷ others) = r.pass

-- a rank whose pass is less by `least`
abbrev pub less : ℕ → Ranked → Ranked
less least r = at_pass (r.pass - least) r

-- ranks after a pull: the least pass, which is the first, is subtracted from all
abbrev pub from_least : List Ranked → List Ranked
from_least ranks = map (less (first_pass ranks)) ranks

-- The row after a pull that the rank at a place won, with its stride.
abbrev pub IsRowWon : ℕ → ℕ → List Ranked → List Ranked → Type 0
IsRowWon place stride row after = (winner : Ranked) → slice_get row place ≡ Some winner → after ≡ from_least (after_win winner.pass stride place row)

-- the rank of an input before the first pull
abbrev pub first_rank : ℕ → Ranked
first_rank input = record { pass = 0; input = input }
