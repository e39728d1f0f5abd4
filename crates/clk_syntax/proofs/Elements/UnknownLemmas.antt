-- The first class that isn't there, declaration by declaration.
use Rattle.std.proofs.Common.{◌≡◌, ℕ, ◌<◌, true, false, List, [], ◌∷◌, ◌++◌, map, length, Option, Some, None, refl, ap, arith, rules}
use Rattle.std.specs.Option.{option_or}
use Rattle.clk_syntax.specs.declared.texts.token.Token.{Token}
use Rattle.clk_syntax.specs.Classes.{class_named}
use Rattle.clk_syntax.specs.Source.{Element, element, letters}
use Rattle.clk_syntax.specs.Declarations.{first_after, fails_at, is_missing, unknown_class}

abbrev pub unknown_in : List Element → Option ℕ
unknown_in [] = None
unknown_in (e ∷ more) = option_or (fails_at (is_missing (class_named e.class.letters)) e.class.place) (unknown_in more)

-- nothing is asked of the elements before
unknown-after : (earlier elements : List Element) → first_after (λ before (e : Element). fails_at (is_missing (class_named e.class.letters)) e.class.place) earlier elements ≡ unknown_in elements
unknown-after earlier [] = refl
unknown-after earlier (e ∷ more) = ap (option_or (fails_at (is_missing (class_named e.class.letters)) e.class.place)) (unknown-after (e ∷ earlier) more)

pub unknown_class-in : (elements : List Element) → unknown_class elements ≡ unknown_in elements
unknown_class-in elements = unknown-after [] elements

-- names of a class that is there
pub unknown-passed : (text : List ℕ) (class : Token) (arguments names : List Token) (more : List Element) → is_missing (class_named (letters text class)) ≡ false
    → unknown_in (map (element text class arguments) names ++ more) ≡ unknown_in more
unknown-passed text class arguments [] more e = refl
unknown-passed text class arguments (name ∷ names) more e = search (rules, (unknown-passed text class arguments names more e))

-- and of one that isn't
pub unknown-found : (text : List ℕ) (class : Token) (arguments names : List Token) (more : List Element) → is_missing (class_named (letters text class)) ≡ true → 0 < length names
    → unknown_in (map (element text class arguments) names ++ more) ≡ Some class.place
unknown-found text class arguments [] more e some = absurd (omega arith)
unknown-found text class arguments (name ∷ names) more e some = ap (λ b. option_or (fails_at b class.place) (unknown_in (map (element text class arguments) names ++ more))) e
