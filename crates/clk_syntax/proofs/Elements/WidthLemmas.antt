-- How many numbers a class has for its inputs.
use Rattle.std.proofs.lemmas.Bool.Decides.{nat_tests}
use Rattle.std.proofs.lemmas.Grind.{common_steps}
use Rattle.std.proofs.Common.{◌≡◌, ℕ, ◌+◌, ◌≤◌, List, [], ◌∷◌, map, length, Option, Some, ap, arith, rules}
use Rattle.std.proofs.lemmas.List.{length-map}
use Rattle.clk_packet.specs.Numbers.{number_in}
use Rattle.clk_syntax.specs.declared.naming.class.ClassName.{ClassName}
use Rattle.clk_syntax.specs.declared.naming.class.ClassName.TheVariants as named
use Rattle.clk_packet.specs.declared.scheduler.SchedulerName.{SchedulerName}
use Rattle.clk_syntax.specs.Classes.{Class, and_then, class_named, class_with, numbers_in, numbers_to}
use Rattle.clk_syntax.specs.Source.{Declared, letters}
use Rattle.clk_syntax.specs.Declarations.{class_if, class_in}

numbers-length : (most : ℕ) (words : List (List ℕ)) (numbers : List ℕ) → numbers_to most words ≡ Some numbers → length numbers ≡ length words
numbers-length most [] numbers e = let same : [] ≡ numbers = cc in omega (arith, ap length same)
numbers-length most (word ∷ words) numbers e = by_case (number_in 1 most word) (numbers_to most words) (λ ns f. numbers-length most words ns f) e
  where
    by_case : (first : Option ℕ) (later : Option (List ℕ)) → ((ns : List ℕ) → later ≡ Some ns → length ns ≡ length words) → and_then first later ≡ Some numbers → length numbers ≡ length (word ∷ words)
    by_case first later known e = search rules

-- a scheduler has one argument more than it is given, at most
scheduler-width : (name : SchedulerName) (words : List (List ℕ)) (class : Class) → class_with (named.Scheduler name) words ≡ Some class → length (numbers_in class) ≤ length words + 1
scheduler-width name words class e = grind (arith, common_steps, nat_tests, numbers-length)

width : (name : ClassName) (arguments : List (List ℕ)) (class : Class) → class_with name arguments ≡ Some class → length (numbers_in class) ≤ length arguments + 1
width name arguments class e = search (rules, scheduler-width)

pub width-in : (text : List ℕ) (d : Declared) (class : Class) → class_in text d ≡ Some class → length (numbers_in class) ≤ length d.arguments + 1
width-in text d class e = by_case (class_named (letters text d.class)) e
  where
    by_case : (name : Option ClassName) → class_if (map (letters text) d.arguments) name ≡ Some class → length (numbers_in class) ≤ length d.arguments + 1
    by_case name e = search (rules, width, length-map)
