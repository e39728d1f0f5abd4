-- Packets that are offered together.
use Rattle.std.proofs.Common.{◌≡◌, ◌++◌, List, ℕ, ◌+◌, ◌<◌, ◌≤◌, true, false, Bool, refl, ap, ◌∙◌, take, drop, length, arith, take-append-drop}
use Rattle.std.proofs.lemmas.List.{length-append, length-take}
use Rattle.std.proofs.lemmas.List.Elements.{All-from_recursion}
use Rattle.std.proofs.lemmas.List.Folds.{list_any-append}
use Rattle.rtrb.specs.Fifo.{EachAllowed}
use Rattle.clk_inlet.specs.declared.limits.TheConstants.{MAX_PACKETS}
use Rattle.clk_inlet.specs.Items.{MayFollow, IsShort, AreShort, has_end, is_end, packets}
use Rattle.clk_inlet.specs.declared.item.Item.{Item}
use Rattle.clk_inlet.proofs.Taking.{more}

both : (before xs : List Item) → has_end before ≡ false → has_end xs ≡ false → has_end (before ++ xs) ≡ false
both before xs b x = grind (arith, list_any-append is_end before xs, b, x)

pub front : (xs : List Item) (i : ℕ) → has_end xs ≡ false → has_end (take i xs) ≡ false
front xs i x = let e : has_end (take i xs ++ drop i xs) ≡ false = ap has_end (take-append-drop i xs) ∙ x in grind (arith, list_any-append is_end (take i xs) (drop i xs), e)

grown : (before xs : List Item) → has_end before ≡ false → has_end xs ≡ false → length (packets (before ++ xs)) ≡ length (packets before) + length xs
grown before xs b x = ap length (more before xs b x) ∙ length-append (packets before) xs

-- packets that keep below the limit may follow, one after the other
pub each_may_follow : (before xs : List Item) → has_end before ≡ false → has_end xs ≡ false → AreShort xs → length (packets before) + length xs ≤ MAX_PACKETS → EachAllowed MayFollow before xs
each_may_follow before xs b x short room = λ i d near. record {
  not_ended = both before (take i xs) b (front xs i x);
  short = All-from_recursion IsShort xs short i d near;
  numbered = λ _. let g = grown before (take i xs) b (front xs i x) in omega (arith, g, length-take i xs, near, room);
}

-- what was sent after them
pub sent_on : (before xs now : List Item) → has_end before ≡ false → has_end xs ≡ false → now ≡ before ++ xs → (has_end now ≡ false) × (packets now ≡ packets before ++ xs) × (length (packets now) ≡ length (packets before) + length xs)
sent_on before xs now b x e = (ap has_end e ∙ both before xs b x, ap packets e ∙ more before xs b x, ap (λ (l : List Item). length (packets l)) e ∙ grown before xs b x)

-- an inlet with room left has not ended
pub still_open : (ended : Bool) (free : ℕ) → (ended ≡ true → free ≡ 0) → 0 < free → ended ≡ false
still_open true free h some = let none = h refl in absurd (omega arith)
still_open false free h some = refl
