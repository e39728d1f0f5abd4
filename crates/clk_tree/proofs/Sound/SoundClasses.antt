-- The arguments of a class that a text names are within their limits.
use Rattle.std.proofs.Common.{◌≡◌, ℕ, ◌≤◌, true, List, [], ◌∷◌, length, Option, Some, None, option_map, option_and_then, IfSome, refl, subst, rules}
use Rattle.std.specs.Bool.{⊤}
use Rattle.clk_packet.specs.declared.limits.TheConstants.{MAX_SENDER, MAX_CAPACITY, MAX_INPUTS}
use Rattle.clk_syntax.specs.declared.naming.class.ClassName.{ClassName}
use Rattle.clk_syntax.specs.declared.naming.class.ClassName.TheVariants as named
use Rattle.clk_syntax.specs.declared.node.Link.{Link}
use Rattle.clk_packet.specs.declared.scheduler.SchedulerName.{SchedulerName}
use Rattle.clk_packet.specs.Scheduler.{Scheduler, most_argument, scheduler_with, inputs_of}
use Rattle.clk_packet.proofs.Callers.Schedulers as sched
use Rattle.clk_packet.proofs.Callers.Schedulers.{AreTo, IsGiven, given, inputs-some, fits-over}
use Rattle.clk_syntax.specs.Classes.{Class, sender, queue, scheduler, class_named, class_with, numbers_to, role_of}
use Rattle.clk_syntax.specs.Source.{Element}
use Rattle.clk_syntax.specs.Declarations.{class_if, class_of}
use Rattle.clk_syntax.specs.Ports as ports
use Rattle.clk_syntax.specs.Ports.{is_scheduler}
use Rattle.clk_tree.specs.inside.PlanTree.{IsOver}

abbrev pub HasLimits : Class → Type 0
HasLimits (sender n) = n ≤ MAX_SENDER
HasLimits (queue kind capacity) = (1 ≤ capacity) × (capacity ≤ MAX_CAPACITY)
HasLimits (scheduler s) = sched.HasLimits s
HasLimits class = ⊤

-- numbers of so many words
pub record AreOf (most : ℕ) (words : List (List ℕ)) (numbers : List ℕ) : Type 0 where
  pub len : length numbers ≡ length words
  pub each : AreTo most numbers

numbers-limits : (most : ℕ) (words : List (List ℕ)) (numbers : List ℕ) → numbers_to most words ≡ Some numbers → AreOf most words numbers
numbers-limits most [] numbers e = let same : [] ≡ numbers = cc in subst (AreOf most []) same (record { len = refl; each = tt })
numbers-limits most (word ∷ words) numbers e = search (rules, (numbers-limits most words))

one : (known class : Class) → HasLimits known → Some known ≡ Some class → HasLimits class
one known class has e = let same : known ≡ class = cc in subst HasLimits same has

scheduled : (name : SchedulerName) (words : List (List ℕ)) (class : Class) → class_with (named.Scheduler name) words ≡ Some class → HasLimits class
scheduled name words class e = by_numbers (numbers_to (most_argument name) words) (λ ns is. (numbers-limits (most_argument name) words ns is).each) e
  where
    by_scheduler : (ns : List ℕ) (o : Option Scheduler) → AreTo (most_argument name) ns → ((s : Scheduler) → o ≡ Some s → IsGiven name ns s) → option_map scheduler o ≡ Some class → HasLimits class
    by_scheduler ns o all is e = search (rules, numbers-limits)

    by_numbers : (o : Option (List ℕ)) → ((ns : List ℕ) → o ≡ Some ns → AreTo (most_argument name) ns) → option_map scheduler (option_and_then (scheduler_with name) o) ≡ Some class → HasLimits class
    by_numbers None all e = absurd (cc)
    by_numbers (Some ns) all e = by_scheduler ns (scheduler_with name ns) (all ns refl) (λ s is. given name ns s is) e

limits : (name : ClassName) (arguments : List (List ℕ)) (class : Class) → class_with name arguments ≡ Some class → HasLimits class
limits name arguments class e = search (rules, one, scheduled)

pub class-limits : (e : Element) (class : Class) → class_of e ≡ Some class → HasLimits class
class-limits x class e = by_case (class_named x.class.letters) e
  where
    by_case : (name : Option ClassName) → class_if x.arguments name ≡ Some class → HasLimits class
    by_case name e = search (rules, limits)

-- A scheduler within its limits can stand over as many inputs as it has.
over : (s : Scheduler) (inputs : ℕ) → sched.HasLimits s → IfSome (inputs_of s) (λ n. n ≡ inputs) → 1 ≤ inputs → inputs ≤ MAX_INPUTS → IsOver (scheduler s) inputs
over s inputs has for some few = record { some = some; within = few; fits = fits-over s inputs has for }

pub over-inputs : (class : Class) (i : ℕ) (links : List Link) → HasLimits class → is_scheduler (Some (role_of class)) ≡ true → ports.inputs_of i (role_of class) links ≤ MAX_INPUTS
    → IsOver class (ports.inputs_of i (role_of class) links)
over-inputs class i links has is few = search (rules, inputs-some, over)
