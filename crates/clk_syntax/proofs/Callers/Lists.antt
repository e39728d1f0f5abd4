-- Lists that are gone over member by member.
use Rattle.std.proofs.Common.{◌≡◌, ℕ, ◌+◌, ◌<◌, List, ◌∷◌, length, drop, slice_index_or, sym, ap, ◌∙◌}
use Rattle.std.proofs.lemmas.List.{drop_more}

-- the member at a place, and what follows it
pub drop-item : {A : Type 0} (xs : List A) (i : ℕ) (x : A) → i < length xs → x ≡ slice_index_or xs i x → drop i xs ≡ x ∷ drop (i + 1) xs
drop-item xs i x inside is = drop_more xs i x inside ∙ ap (λ y. y ∷ drop (i + 1) xs) (sym is)
