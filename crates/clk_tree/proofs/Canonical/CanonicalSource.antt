-- What the canonical text of a plan declares and connects, but for the places of its names.
use Rattle.std.proofs.Common.{◌≡◌, ℕ, ◌+◌, ◌≤◌, ◌<◌, Bool, true, false, List, [], ◌∷◌, length, map, Some, slice_get, Option}
use Rattle.std.specs.List.{list_all, AllByRecursion}
use Rattle.clk_packet.specs.Numbers.{has_bytes}
use Rattle.clk_syntax.specs.declared.limits.TheConstants.{MAX_PORT}
use Rattle.clk_syntax.specs.Tokens.{is_word_byte, is_digit}
use Rattle.clk_syntax.specs.Source.{Element, Wire}
use Rattle.clk_syntax.specs.Classes.{Class, queue, class_named}
use Rattle.clk_syntax.specs.Declarations.{class_if}
use Rattle.clk_tree.specs.Plan.{Planned}
use Rattle.clk_tree.specs.Canonical.{class_text, arguments_of, name_of}

-- an element and a wire without their places
pub record BareElement : Type 0 where
  pub name : List ℕ
  pub class : List ℕ
  pub arguments : List (List ℕ)

pub record BareWire : Type 0 where
  pub from : List ℕ
  pub output : Option ℕ
  pub input : Option ℕ
  pub to : List ℕ

abbrev pub bare_element : Element → BareElement
bare_element e = record { name = e.name.letters; class = e.class.letters; arguments = e.arguments }

abbrev pub bare_wire : Wire → BareWire
bare_wire c = record { from = c.from.letters; output = c.output; input = c.input; to = c.to.letters }

-- the line of an element of a plan
abbrev pub element_line : Planned → BareElement
element_line e = record { name = e.name; class = class_text e.class; arguments = arguments_of e.class }

-- the lines of the connections to an element
abbrev pub wire_line : List Planned → ℕ → ℕ → List ℕ → BareWire
wire_line plan source input name = record { from = name_of (slice_get plan source); output = Some 0; input = Some input; to = name }

abbrev pub input_lines : List Planned → List ℕ → ℕ → List ℕ → List BareWire
input_lines plan name input [] = []
input_lines plan name input (s ∷ more) = wire_line plan s input name ∷ input_lines plan name (input + 1) more

abbrev pub class_lines : List Planned → List ℕ → List ℕ → Class → List BareWire
class_lines plan name sources (queue kind capacity) = map (λ s. wire_line plan s 0 name) sources
class_lines plan name sources class = input_lines plan name 0 sources

abbrev pub wire_lines : List Planned → Planned → List BareWire
wire_lines plan e = class_lines plan e.name e.sources e.class

-- a word, and a name: a word that begins with no digit
pub record IsWordText (word : List ℕ) : Type 0 where
  pub some : has_bytes word ≡ true
  pub letters : list_all is_word_byte word ≡ true

abbrev pub begins_with_digit : List ℕ → Bool
begins_with_digit [] = false
begins_with_digit (byte ∷ more) = is_digit byte

pub record IsNameText (name : List ℕ) : Type 0 where
  pub word : IsWordText name
  pub no_digit : begins_with_digit name ≡ false

-- An element that can be written as a line, among so many.
pub record CanBeWritten (count : ℕ) (e : Planned) : Type 0 where
  pub name : IsNameText e.name
  pub arguments : AllByRecursion IsWordText (arguments_of e.class)
  pub inputs : length e.sources ≤ MAX_PORT
  pub sources : AllByRecursion (λ s. s < count) e.sources

-- the line of a class is read as that class
abbrev pub IsReadBack : Planned → Type 0
IsReadBack e = class_if (arguments_of e.class) (class_named (class_text e.class)) ≡ Some e.class
