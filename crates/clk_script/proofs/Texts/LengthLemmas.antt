-- Parts of a list.
use Rattle.std.proofs.Common.{◌≤◌, List, [], ◌∷◌, length, filter, Bool, Option, arith, rules}
use Rattle.std.specs.List.{filter_map}
use Rattle.std.proofs.lemmas.List.Sums.{length-filter, count_by-le-length}

-- parts of a list are no longer than it
pub length-filter_map-le : {X Y : Type 0} (f : X → Option Y) (xs : List X) → length (filter_map f xs) ≤ length xs
length-filter_map-le f [] = omega arith
length-filter_map-le {X} {Y} f (x ∷ xs) = search (rules, (length-filter_map-le f xs))

pub length-filter-le : {X : Type 0} (f : X → Bool) (xs : List X) → length (filter f xs) ≤ length xs
length-filter-le f xs = let is = length-filter f xs in let few = count_by-le-length f xs in omega (arith, is, few)
