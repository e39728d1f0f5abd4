-- The line of each element of a plan is read as the class that it has.
use Rattle.std.proofs.Common.{◌≡◌, ℕ, ◌+◌, List, [], ◌∷◌, length, Some, None, rules}
use Rattle.std.specs.Bool.{⊤}
use Rattle.std.specs.List.{AllByRecursion}
use Rattle.clk_syntax.specs.declared.node.Link.{Link}
use Rattle.clk_packet.proofs.Callers.Schedulers.{most-small}
use Rattle.clk_syntax.specs.Classes.{Class, class_named}
use Rattle.clk_syntax.specs.Source.{Element, Wire}
use Rattle.clk_syntax.specs.Declarations.{class_if, class_of}
use Rattle.clk_syntax.specs.Faults.{links_of, fault_of}
use Rattle.clk_tree.specs.Plan.{Planned, all_known, planned_from, plan_of}
use Rattle.clk_tree.specs.Canonical.{class_text, arguments_of}
use Rattle.clk_tree.proofs.Canonical.CanonicalSource.{IsReadBack}
use Rattle.clk_tree.proofs.Callers.Numbers.{number-again}
use Rattle.clk_tree.proofs.Canonical.NumberWords.{numbers-again}
use Rattle.clk_tree.proofs.Sound.SoundClasses.{HasLimits, class-limits}

-- the name of a scheduler is read as that name
class-again : (class : Class) → HasLimits class → class_if (arguments_of class) (class_named (class_text class)) ≡ Some class
class-again class has = search (rules, number-again, numbers-again, most-small)

-- what holds of each element of a plan, by the element of the text and its class
pub all-planned : (Q : Element → Type 0) (P : Planned → Type 0) (count : ℕ) (links : List Link) (i : ℕ) (elements : List Element) → AllByRecursion Q elements
    → ((e : Element) (class : Class) (sources : List ℕ) → Q e → class_of e ≡ Some class → P (record { name = e.name.letters; class = class; sources = sources }))
    → AllByRecursion P (planned_from count links i (all_known elements))
all-planned Q P count links i [] all each = tt
all-planned Q P count links i (e ∷ elements) all each = search (rules, (all-planned Q P count links i elements all.1 each), (all-planned Q P count links (i + 1) elements all.1 each))

all-elements : (elements : List Element) → AllByRecursion (λ (e : Element). ⊤) elements
all-elements [] = tt
all-elements (e ∷ elements) = (tt, all-elements elements)

pub plan-read-back : (elements : List Element) (wires : List Wire) → fault_of elements wires ≡ None → AllByRecursion IsReadBack (plan_of elements wires)
plan-read-back elements wires none =
    all-planned (λ (e : Element). ⊤) IsReadBack (length (all_known elements)) (links_of elements wires) 0 elements (all-elements elements)
    (λ e class sources known is. class-again class (class-limits e class is))
