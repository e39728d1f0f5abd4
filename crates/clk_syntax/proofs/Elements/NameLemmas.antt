-- Names that are declared one after another, and the places that a table has for them.
use Rattle.std.proofs.Common.{◌≡◌, ℕ, ◌+◌, Bool, true, false, if◌then◌else◌, zero-add, List, [], ◌∷◌, length, Option, Some, None, refl, sym, ap, ◌∙◌, rules}
use Rattle.std.specs.Option.{is_some}
use Rattle.std.specs.Map.{update}
use Rattle.std.specs.Str.{bytes_eq}
use Rattle.std.proofs.lemmas.Slice.Eq.{bytes_eq-Decides}
use Rattle.clk_syntax.specs.declared.naming.names.DeclaredNames.{DeclaredNames}
use Rattle.clk_syntax.specs.Source.{Element}
use Rattle.clk_syntax.specs.Declarations.{first_after, fails_at, is_declared, name_twice}
use Rattle.clk_syntax.specs.Faults.{place_of}
use Rattle.clk_syntax.specs.inside.Naming.{place_in, latest_place, turned, Declares, IsTable}

latest-some : (earlier : List Element) (name : List ℕ) → is_some (latest_place earlier name) ≡ is_declared name earlier
latest-some [] name = refl
latest-some (e ∷ earlier) name = search (rules, (latest-some earlier name))

-- a name that was declared before
pub Declares-twice : (all rest : List Element) (names : DeclaredNames) (e : Element) → is_some (place_in names e.name.letters) ≡ true → Declares all (e ∷ rest) names → name_twice all ≡ Some e.name.place
Declares-twice all rest names e some h = search (rules, latest-some)

-- one name more, which wasn't
pub Declares-more : (all rest : List Element) (old new : DeclaredNames) (e : Element) → is_some (place_in old e.name.letters) ≡ false
    → ((name : List ℕ) → place_in new name ≡ update bytes_eq (place_in old) e.name.letters (Some old.count) name) → new.count ≡ old.count + 1 → Declares all (e ∷ rest) old → Declares all rest new
Declares-more all rest old new e none placed counted h = search (rules, latest-some)

-- The place of a name where some elements are turned and the rest are not: the latest is the first, where none is there twice.
abbrev placed : Option ℕ → List ℕ → ℕ → List Element → Option ℕ
placed (Some place) name count rest = Some place
placed None name count rest = if is_declared name rest then Some (count + place_of rest name) else None

abbrev Once : List Element → List Element → Type 0
Once earlier rest = first_after (λ before (e : Element). fails_at (is_declared e.name.letters before) e.name.place) earlier rest ≡ None

once-first : (earlier rest : List Element) (e : Element) → Once earlier (e ∷ rest) → (is_declared e.name.letters earlier ≡ false) × Once (e ∷ earlier) rest
once-first earlier rest e once = search rules

latest-none : (earlier : List Element) (name : List ℕ) → is_declared name earlier ≡ false → latest_place earlier name ≡ None
latest-none earlier name absent = by_case (latest_place earlier name) (latest-some earlier name ∙ absent)
  where
    by_case : (place : Option ℕ) → is_some place ≡ false → place ≡ None
    by_case place e = search (rules, latest-some)

turned-place : (earlier rest : List Element) (name : List ℕ) → Once earlier rest → latest_place (turned earlier rest) name ≡ placed (latest_place earlier name) name (length earlier) rest
turned-place earlier [] name once = search (rules, once-first, latest-none, bytes_eq-Decides)
turned-place earlier (e ∷ rest) name once =
    let first = once-first earlier rest e once in
    turned-place (e ∷ earlier) rest name first.1 ∙ by_test (bytes_eq e.name.letters name) refl (latest_place earlier name) (λ same. latest-none earlier name (ap (λ l. is_declared l earlier) (sym same) ∙ first.0))
  where
    by_test : (b : Bool) → bytes_eq e.name.letters name ≡ b → (place : Option ℕ) → (e.name.letters ≡ name → place ≡ None)
        → placed (if b then Some (length earlier) else place) name (length (e ∷ earlier)) rest ≡ placed place name (length earlier) (e ∷ rest)
    by_test b eq place none = search (rules, once-first, latest-none, bytes_eq-Decides)

-- when all names are declared
pub Declares-all : (all : List Element) (names : DeclaredNames) → Declares all [] names → (name_twice all ≡ None) × IsTable all names
Declares-all all names h = search (rules, turned-place, zero-add)
