-- The checks of names, classes and arguments, each with the place at which it fails first (this project's own choice).
use Rattle.std.specs.Prelude.{ℕ, List, [], ◌∷◌, map, Bool, true, false, ◌==◌, not, if◌then◌else◌, Option, Some, None}
use Rattle.std.specs.Option.{option_or}
use Rattle.std.specs.List.{list_any}
use Rattle.std.specs.Str.{bytes_eq}
use Rattle.clk_syntax.specs.declared.naming.class.ClassName.{ClassName}
use Rattle.clk_syntax.specs.Classes.{Class, sender, class_named, class_with}
use Rattle.clk_syntax.specs.Source.{Declared, Word, Element, Wire, letters}

-- The first place at which the members of a list fail, one after another. Whether a member fails may depend on those before it, which are
-- given with the latest first.
abbrev pub first_after : {A : Type 0} → (List A → A → Option ℕ) → List A → List A → Option ℕ
first_after fails earlier [] = None
first_after fails earlier (x ∷ more) = option_or (fails earlier x) (first_after fails (x ∷ earlier) more)

-- the first place at which the members of a list fail, one after another
abbrev pub first_failure : {A : Type 0} → (List A → A → Option ℕ) → List A → Option ℕ
first_failure fails xs = first_after fails [] xs

-- the place, if a check fails there
abbrev pub fails_at : Bool → ℕ → Option ℕ
fails_at fails place = if fails then Some place else None

-- whether an element of this name is among some
abbrev pub is_declared : List ℕ → List Element → Bool
is_declared name elements = list_any (λ (e : Element). bytes_eq e.name.letters name) elements

-- fault 5: the first place at which a name is declared that was declared before
abbrev pub name_twice : List Element → Option ℕ
name_twice elements = first_failure (λ earlier (e : Element). fails_at (is_declared e.name.letters earlier) e.name.place) elements

abbrev pub is_missing : {A : Type 0} → Option A → Bool
is_missing None = true
is_missing (Some x) = false

-- fault 3: the first place at which a class is named that isn't there
abbrev pub unknown_class : List Element → Option ℕ
unknown_class elements = first_failure (λ earlier (e : Element). fails_at (is_missing (class_named e.class.letters)) e.class.place) elements

-- the class of an element with its arguments, if there is such a class and it takes them
abbrev pub class_if : List (List ℕ) → Option ClassName → Option Class
class_if arguments None = None
class_if arguments (Some name) = class_with name arguments

abbrev pub class_of : Element → Option Class
class_of e = class_if e.arguments (class_named e.class.letters)

-- the class of a declaration with its arguments, if there is such a class and it takes them
abbrev pub class_in : List ℕ → Declared → Option Class
class_in text d = class_if (map (letters text) d.arguments) (class_named (letters text d.class))

-- whether an element is a Sender of this number
abbrev pub is_sender : ℕ → Option Class → Bool
is_sender n (Some (sender m)) = m == n
is_sender n class = false

-- whether an element's arguments don't fit its class, or it is a Sender of which an earlier one has the number
abbrev pub is_bad_after : List Element → Option Class → Bool
is_bad_after earlier None = true
is_bad_after earlier (Some (sender n)) = list_any (λ e. is_sender n (class_of e)) earlier
is_bad_after earlier (Some class) = false

-- fault 4: the first place at which arguments don't fit the class, or a Sender has the number of an earlier one
abbrev pub bad_argument : List Element → Option ℕ
bad_argument elements = first_failure (λ earlier (e : Element). fails_at (is_bad_after earlier (class_of e)) e.class.place) elements

-- the place of a name in a chain, if it isn't declared
abbrev pub unknown_end : List Element → Word → Option ℕ
unknown_end elements name = fails_at (not (is_declared name.letters elements)) name.place

-- fault 6: the first place at which a chain names what isn't declared
abbrev pub unknown_name : List Element → List Wire → Option ℕ
unknown_name elements wires =
    first_failure (λ earlier (c : Wire). option_or (unknown_end elements c.from) (unknown_end elements c.to)) wires
