-- The table of declared names, and what is known of a text while its declarations are gone over.
use Rattle.std.specs.Prelude.{◌≡◌, ℕ, ◌+◌, ◌*◌, ◌%◌, ◌^◌, ◌<◌, List, [], ◌∷◌, ◌++◌, map, length, take, drop, ◌-◌, get_or, Bool, true, not, ◌&&◌, nat_le, if◌then◌else◌, Option, Some, None, ◌⊎◌}
use Rattle.std.specs.BTreeMap.{get_by}
use Rattle.std.specs.Cmp.Lexicographic.{slice_cmp}
use Rattle.std.specs.List.{list_any}
use Rattle.std.specs.Option.{option_or}
use Rattle.std.specs.Ordering.{nat_cmp, ordering_then}
use Rattle.std.specs.Str.{bytes_eq}
use denote.Ref.{Bor}
use Rattle.clk_packet.specs.declared.fault.Fault.{Fault}
use Rattle.clk_packet.specs.declared.fault.Fault.TheVariants.{Memory}
use Rattle.clk_syntax.specs.Declarations.{class_in, first_after, fails_at, is_declared, name_twice, class_of, is_sender, is_bad_after, bad_argument, unknown_end}
use Rattle.clk_syntax.specs.Classes.{is_class, Class, sender}
use Rattle.clk_syntax.specs.declared.naming.class.Role.{Role}
use Rattle.clk_syntax.specs.declared.naming.names.DeclaredNames.{DeclaredNames}
use Rattle.clk_syntax.specs.declared.naming.JudgedElements.{JudgedElements}
use Rattle.clk_syntax.specs.declared.node.Link.{Link}
use Rattle.clk_syntax.specs.declared.node.Node.{Node}
use Rattle.clk_syntax.specs.declared.texts.token.Token.{Token}
use Rattle.clk_syntax.specs.inside.Numbers.{has_number}
use Rattle.clk_syntax.specs.Source.{Declared, Element, Wire, elements}
use Rattle.clk_syntax.specs.Faults.{place_of, nodes_of}

-- a hash of some bytes, from that of the bytes before: for each byte it is multiplied by 2^64 over the golden ratio, which spreads names
abbrev pub mixed_from : ℕ → List ℕ → ℕ
mixed_from number [] = number
mixed_from number (byte ∷ rest) = mixed_from ((number * 11400714819323198485 % 2 ^ 64 + byte) % 2 ^ 64) rest

-- a hash of a name's bytes, or of those at the ends of a long one, by which a table sorts names before it looks at the bytes
unfoldable pub mixed : List ℕ → ℕ
mixed name = if nat_le (length name) 32 then mixed_from 0 name else mixed_from (mixed_from 0 (take 16 name)) (drop (length name - 16) name)

-- the slot that a name's hash leads to
abbrev pub slot_at : List (Option (Bor (List ℕ) × ℕ)) → List ℕ → Option (Bor (List ℕ) × ℕ)
slot_at slots name = get_or slots (mixed name % length slots) None

-- the place that a slot has for a name
abbrev pub place_there : Option (Bor (List ℕ) × ℕ) → List ℕ → Option ℕ
place_there None name = None
place_there (Some known) name = if bytes_eq known.0.now name then Some known.1 else None

-- the place that a table has for a name whose slot is another's
abbrev pub place_else : DeclaredNames → List ℕ → Option ℕ
place_else names name = get_by (λ key. ordering_then (nat_cmp (mixed name) key.0) (slice_cmp nat_cmp name key.1.now)) names.more

-- the place that a table has for a name
abbrev pub place_in : DeclaredNames → List ℕ → Option ℕ
place_in names name = option_or (place_there (slot_at names.slots.items name) name) (place_else names name)

-- a name whose slot is free isn't elsewhere
abbrev pub IsSlotted : DeclaredNames → Type 0
IsSlotted names = (name : List ℕ) → slot_at names.slots.items name ≡ None → place_else names name ≡ None

-- the place of a name among elements of which the latest stands first
abbrev pub latest_place : List Element → List ℕ → Option ℕ
latest_place [] name = None
latest_place (e ∷ earlier) name = if bytes_eq e.name.letters name then Some (length earlier) else latest_place earlier name

-- the elements of a list, the latest first, before those that are so already
abbrev pub turned : List Element → List Element → List Element
turned earlier [] = earlier
turned earlier (e ∷ more) = turned (e ∷ earlier) more

-- All elements but these, the rest, are in a table, and none of their names is there twice.
pub record Declares (all rest : List Element) (names : DeclaredNames) : Type 0 where
  pub earlier : List Element
  pub order : turned earlier rest ≡ turned [] all
  pub count : names.count ≡ length earlier
  pub places : (name : List ℕ) → place_in names name ≡ latest_place earlier name
  pub twice : name_twice all ≡ first_after (λ before (e : Element). fails_at (is_declared e.name.letters before) e.name.place) earlier rest

-- the place of a name among elements, if it is declared
abbrev pub place_if : List Element → List ℕ → Option ℕ
place_if elements name = if is_declared name elements then Some (place_of elements name) else None

-- a table has the place of each name among elements
abbrev pub IsTable : List Element → DeclaredNames → Type 0
IsTable elements names = (name : List ℕ) → place_in names name ≡ place_if elements name

-- why a check fails: it finds this fault, or an allocation failed (fault 1)
abbrev pub Stops : Option Fault → Fault → Type 0
Stops check fault = (fault ≡ Memory) ⊎ (check ≡ Some fault)

-- an element that is declared by this name, as the checks of ports see it
abbrev pub node_at : Role → Token → Node
node_at role token = record { place = token.place; role = role }

-- whether so many elements may be of this class, after Senders of these numbers
abbrev pub may_stand : (ℕ → Bool) → Class → ℕ → Bool
may_stand taken (sender n) names = nat_le names 1 && not (taken n)
may_stand taken class names = true

-- where the arguments of an element don't fit after earlier ones
abbrev pub bad_at : List Element → Element → Option ℕ
bad_at earlier e = fails_at (is_bad_after earlier (class_of e)) e.class.place

-- What is known of all declarations but those that are left: their elements' arguments fit, these are their classes and nodes, and these
-- the numbers of the Senders among them.
pub record Judges (text : List ℕ) (all left : List Declared) (judged : JudgedElements) : Type 0 where
  pub earlier : List Element
  pub bad : bad_argument (elements text all) ≡ first_after bad_at earlier (elements text left)
  pub taken : (n : ℕ) → has_number judged.senders n ≡ list_any (λ e. is_sender n (class_of e)) earlier
  pub classes : map (class_in text) all ≡ map is_class judged.classes.items ++ map (class_in text) left
  pub nodes : nodes_of (elements text all) ≡ judged.nodes.items ++ nodes_of (elements text left)
  pub count : length judged.nodes.items + length (elements text left) ≡ length (elements text all)

-- an end of a wire that isn't declared
abbrev pub unknown_ends : List Element → Wire → Option ℕ
unknown_ends elements c = option_or (unknown_end elements c.from) (unknown_end elements c.to)

-- a connection whose ends are among so many elements
abbrev pub IsLinkBelow : ℕ → Link → Type 0
IsLinkBelow count c = (c.from < count) × (c.to < count)
