-- Connections, one after another.
use Rattle.std.proofs.lemmas.Bool.Decides.{nat_tests}
use Rattle.std.proofs.lemmas.Grind.{common_steps}
use Rattle.std.proofs.Common.{◌≡◌, ℕ, ◌<◌, ◌||◌, not, Bool, true, List, [], ◌∷◌, ◌++◌, length, Option, Some, None, refl, sym, ap, ◌∙◌, append_assoc, append-nil, arith, rules}
use Rattle.std.specs.Option.{option_or, option_map}
use Rattle.std.specs.List.{AllByRecursion}
use Rattle.std.specs.Str.{bytes_eq}
use Rattle.clk_packet.specs.declared.fault.Fault.{Fault}
use Rattle.clk_syntax.specs.declared.node.Link.{Link}
use Rattle.clk_syntax.specs.Source.{Element, Wire}
use Rattle.clk_syntax.specs.Declarations.{first_after, fails_at, is_declared, unknown_end, unknown_name}
use Rattle.clk_syntax.specs.Faults.{place_of, link_of, links_of}
use Rattle.clk_syntax.specs.inside.Naming.{place_if, unknown_ends, IsLinkBelow}

-- the first end that isn't declared
abbrev pub unknown_from : List Element → List Wire → Option ℕ
unknown_from elements [] = None
unknown_from elements (c ∷ more) = option_or (unknown_ends elements c) (unknown_from elements more)

-- nothing is asked of the connections before
unknown-after : (elements : List Element) (earlier wires : List Wire) → first_after (λ before (c : Wire). option_or (unknown_end elements c.from) (unknown_end elements c.to)) earlier wires ≡ unknown_from elements wires
unknown-after elements earlier [] = refl
unknown-after elements earlier (c ∷ more) = ap (option_or (unknown_ends elements c)) (unknown-after elements (c ∷ earlier) more)

-- these connections are made, and these are left
pub record Links (all : List Element) (wires left : List Wire) (made : List Link) : Type 0 where
  pub unknown : unknown_name all wires ≡ unknown_from all left
  pub links : links_of all wires ≡ made ++ links_of all left
  pub below : AllByRecursion (IsLinkBelow (length all)) made

pub Links-none : (all : List Element) (wires : List Wire) → Links all wires wires []
Links-none all wires = record { unknown = unknown-after all [] wires; links = refl; below = tt }

all-more : (P : Link → Type 0) (xs : List Link) (x : Link) → AllByRecursion P xs → P x → AllByRecursion P (xs ++ x ∷ [])
all-more P xs x all h = grind (arith, common_steps, nat_tests)

pub Links-more : (all : List Element) (wires left : List Wire) (links : List Link) (c : Wire) (link : Link) → unknown_ends all c ≡ None → link ≡ link_of all c → IsLinkBelow (length all) link
    → Links all wires (c ∷ left) links → Links all wires left (links ++ link ∷ [])
Links-more all wires left links c link known e below h = search (rules, append_assoc, all-more)

first-end : (fault : ℕ → Fault) (first later : Option ℕ) (found : Fault) → option_map fault first ≡ Some found → option_map fault (option_or first later) ≡ Some found
first-end fault first later found e = search rules

pub Links-stop : (fault : ℕ → Fault) (all : List Element) (wires left : List Wire) (links : List Link) (c : Wire) (found : Fault) → option_map fault (unknown_ends all c) ≡ Some found → Links all wires (c ∷ left) links
    → option_map fault (unknown_name all wires) ≡ Some found
Links-stop fault all wires left links c found e h = ap (option_map fault) h.unknown ∙ first-end fault (unknown_ends all c) (unknown_from all left) found e

pub Links-all : (all : List Element) (wires : List Wire) (links : List Link) → Links all wires [] links → (unknown_name all wires ≡ None) × (links ≡ links_of all wires) × AllByRecursion (IsLinkBelow (length all)) links
Links-all all wires links h = (h.unknown, sym (h.links ∙ append-nil links), h.below)

-- a name that is declared has its place below their number
place-below : (all : List Element) (name : List ℕ) → is_declared name all ≡ true → place_of all name < length all
place-below [] name there = absurd (cc)
place-below (e ∷ more) name there = by_test (bytes_eq e.name.letters name) refl (λ h. place-below more name h) there
  where
    by_test : (b : Bool) → bytes_eq e.name.letters name ≡ b → (is_declared name more ≡ true → place_of more name < length more) → (b || is_declared name more) ≡ true → place_of (e ∷ more) name < length (e ∷ more)
    by_test b eq later h = search rules

pub found : (all : List Element) (name : List ℕ) (word_place place : ℕ) → place_if all name ≡ Some place
    → (fails_at (not (is_declared name all)) word_place ≡ None) × (place ≡ place_of all name) × (place < length all)
found all name word_place place e = search (rules, place-below)
