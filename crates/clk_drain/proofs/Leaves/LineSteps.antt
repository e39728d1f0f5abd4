-- Lines gather their seats one after another.
use Rattle.std.proofs.Common.{◌≡◌, ℕ, ◌+◌, ◌<◌, ◌≤◌, suc, List, [], ◌∷◌, length, map, get_or, set, arith, rules}
use Rattle.std.specs.List.{AllWithin, AllByRecursion}
use Rattle.std.proofs.Math.Seq.{map-set_same}
use Rattle.clk_drain.specs.Line.{LineLists, AreStill}
use Rattle.clk_drain.specs.inside.Parts.{taken_at, IsGathered, IsGatheredFrom, AreGatheredFrom}

-- So many of the lines gathered their seats, and nothing else is new.
pub record AreGathering (old now : List LineLists) (n : ℕ) : Type 0 where
  pub still : AreStill old now
  pub taken : map taken_at now ≡ map taken_at old
  pub first : AllWithin IsGathered now 0 n

pub line-gathered : (old now : List LineLists) (i : ℕ) (new d : LineLists) → i < length now → IsGatheredFrom (get_or now i d) new → AreGathering old now i → AreGathering old (set now i new) (i + 1)
line-gathered old now i new d lt is h = search (rules, map-set_same)

each-gathered : (now : List LineLists) → ((k : ℕ) (d : LineLists) → k < length now → IsGathered (get_or now k d)) → AllByRecursion IsGathered now
each-gathered [] h = tt
each-gathered (l ∷ now) h = (h 0 l (omega arith), each-gathered now (λ k d lt. h (suc k) d (omega arith)))

pub lines-gathered : (old now : List LineLists) (n : ℕ) → length now ≤ n → AreGathering old now n → AreGatheredFrom old now
lines-gathered old now n le h = search (rules, each-gathered)
