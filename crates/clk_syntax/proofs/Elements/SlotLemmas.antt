-- Names in slots, with one more elsewhere, whose slot is another's.
use Rattle.std.proofs.Common.{◌≡◌, ℕ, ◌<◌, ◌%◌, length, get_or, Bool, true, false, cond, List, Option, Some, None, refl, sym, ap, ◌∙◌, rules}
use Rattle.std.specs.Map.{update}
use Rattle.std.specs.Option.{option_or}
use Rattle.std.specs.Str.{bytes_eq}
use Rattle.std.proofs.lemmas.Slice.Eq.{bytes_eq-Decides}
use Rattle.std.proofs.lemmas.List.{get_or_read_under}
use Rattle.std.proofs.lemmas.Nat.{mod_below}
use Rattle.clk_syntax.specs.inside.Naming.{mixed, slot_at, place_there}
use denote.Ref.{Bor}

-- what is read at the slot of a name
pub slot-read : (slots : List (Option (Bor (List ℕ) × ℕ))) (name : List ℕ) (number count : ℕ) (there : Option (Bor (List ℕ) × ℕ)) → there ≡ get_or slots (number % count) there
    → number ≡ mixed name → count ≡ length slots → 0 < count → slot_at slots name ≡ there
slot-read slots name number count there is e f some = search (rules, get_or_read_under, mod_below)

-- the slot of a name is taken by the name that is read there
pub slot-taken : (slots : List (Option (Bor (List ℕ) × ℕ))) (name : List ℕ) (number count size : ℕ) (there : Option (Bor (List ℕ) × ℕ)) (known : Bor (List ℕ) × ℕ) → there ≡ get_or slots (number % count) there
    → number ≡ mixed name → count ≡ size → size ≡ length slots → 0 < length slots → there ≡ Some known → slot_at slots name ≡ Some known
slot-taken slots name number count size there known is e f g some stands = search (rules, slot-read)

module _ (slots : List (Option (Bor (List ℕ) × ℕ))) (known : Bor (List ℕ) × ℕ) (name : List ℕ) (place : ℕ) (old new : List ℕ → Option ℕ) (taken : slot_at slots name ≡ Some known)
    (more : (other : List ℕ) → new other ≡ update bytes_eq old name (Some place) other) where
  abbrev found : (List ℕ → Option ℕ) → List ℕ → Option ℕ
  found others other = option_or (place_there (slot_at slots other) other) (others other)

  at : (other : List ℕ) → bytes_eq name other ≡ true → slot_at slots other ≡ Some known
  at other e = ap (slot_at slots) (sym ((bytes_eq-Decides name other).0 e)) ∙ taken

  pub else-found : bytes_eq known.0.now name ≡ false → (other : List ℕ) → found new other ≡ update bytes_eq (found old) name (Some place) other
  else-found unlike other = ap (λ o. option_or (place_there (slot_at slots other) other) o) (more other) ∙ by_test (bytes_eq name other) refl
    where
      away : bytes_eq name other ≡ true → place_there (slot_at slots other) other ≡ None
      away e = ap (λ s. place_there s other) (at other e) ∙ ap (λ n. place_there (Some known) n) (sym ((bytes_eq-Decides name other).0 e)) ∙ ap (λ b. cond b (Some known.1) None) unlike

      by_test : (b : Bool) → bytes_eq name other ≡ b → option_or (place_there (slot_at slots other) other) (cond b (Some place) (old other)) ≡ cond b (Some place) (found old other)
      by_test true e = ap (λ o. option_or o (Some place)) (away e)
      by_test false e = refl

  pub else-slotted : ((other : List ℕ) → slot_at slots other ≡ None → old other ≡ None) → (other : List ℕ) → slot_at slots other ≡ None → new other ≡ None
  else-slotted slotted other free = more other ∙ by_test (bytes_eq name other) refl
    where
      by_test : (b : Bool) → bytes_eq name other ≡ b → cond b (Some place) (old other) ≡ None
      by_test true e = absurd (let no : Some known ≡ None = sym (at other e) ∙ free in cc)
      by_test false e = slotted other free
