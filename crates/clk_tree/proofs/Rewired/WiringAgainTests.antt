-- Connections in another order, and with other places: what is asked of them has the same answer.
use Rattle.std.proofs.Common.{◌≡◌, ℕ, ◌+◌, ◌≤◌, ◌==◌, ◌&&◌, ◌||◌, Bool, true, false, if◌then◌else◌, List, [], ◌∷◌, Some, None, unwrap_or, inl, inr, refl, sym, ap, ap₂, subst, ◌∙◌, arith, eq-eqb, eqb-true, rules}
use Rattle.std.proofs.Math.Nat.{le-max_left, le-max_right, max-le}
use Rattle.std.specs.Bool.{⊤}
use Rattle.std.specs.List.{AllByRecursion, list_any}
use Rattle.std.proofs.lemmas.Bool.{false≢true, both_ways, and_parts, and_from, or_left, or_right}
use Rattle.clk_syntax.specs.declared.node.Node.{Node}
use Rattle.clk_syntax.specs.declared.node.Link.{Link}
use Rattle.clk_syntax.specs.Declarations.{first_after}
use Rattle.clk_syntax.specs.Ports.{role_at, is_queue, uses_output, uses_input, inputs_used, target, next}
use Rattle.clk_syntax.proofs.Callers.Graphs.{used_again}
use Rattle.clk_syntax.proofs.Callers.Checks.{neither, fails-not}
use Rattle.clk_tree.specs.Plan.{source_at}
use Rattle.clk_tree.proofs.Distinct.DistinctPlans.{Once}
use Rattle.clk_tree.proofs.Rewired.SameWiring.{IsAlike, Occurs, IsRewired}

-- what reads no place of a connection
abbrev pub Placeless : {A : Type 0} → (Link → A) → Type 0
Placeless f = (c d : Link) → IsAlike c d → f c ≡ f d

-- What holds of all of some gives what holds of one like one of them.
occurs-has : (P Q : Link → Type 0) → ((c d : Link) → IsAlike c d → P d → Q c) → (c : Link) (links : List Link) → Occurs c links → AllByRecursion P links → Q c
occurs-has P Q alike c [] o all = absurd o
occurs-has P Q alike c (d ∷ more) (inl a) all = alike c d a all.0
occurs-has P Q alike c (d ∷ more) (inr o) all = occurs-has P Q alike c more o all.1

pub all-occur : (P Q : Link → Type 0) → ((c d : Link) → IsAlike c d → P d → Q c) → (links others : List Link) → AllByRecursion (λ c. Occurs c others) links → AllByRecursion P others
    → AllByRecursion Q links
all-occur P Q alike [] others occur all = tt
all-occur P Q alike (c ∷ links) others occur all = (occurs-has P Q alike c others occur.0 all, all-occur P Q alike links others occur.1 all)

-- Some of them pass a test where some of the others do.
occurs-passes : (p : Link → Bool) → Placeless p → (c : Link) (links : List Link) → Occurs c links → p c ≡ true → list_any p links ≡ true
occurs-passes p alike c [] o passes = absurd o
occurs-passes p alike c (d ∷ more) (inl a) passes = or_left (p d) (list_any p more) (sym (alike c d a) ∙ passes)
occurs-passes p alike c (d ∷ more) (inr o) passes = or_right (p d) (list_any p more) (occurs-passes p alike c more o passes)

some-pass : (p : Link → Bool) → Placeless p → (links others : List Link) → AllByRecursion (λ c. Occurs c others) links → list_any p links ≡ true → list_any p others ≡ true
some-pass p alike [] others occur some = absurd (false≢true some)
some-pass p alike (c ∷ more) others occur some = search (rules, false≢true, occurs-passes, (some-pass p alike more others occur.1))

same-tests : (a b : Bool) → (a ≡ true → b ≡ true) → (b ≡ true → a ≡ true) → a ≡ b
same-tests a b f g = search rules

pub same-any : (p : Link → Bool) → Placeless p → (links rewired : List Link) → IsRewired links rewired → list_any p rewired ≡ list_any p links
same-any p alike links rewired is = same-tests (list_any p rewired) (list_any p links) (some-pass p alike rewired links is.came) (some-pass p alike links rewired is.kept)

abbrev pub leads_from : ℕ → Link → Bool
leads_from i c = c.from == i

abbrev pub leads_into : ℕ → ℕ → Link → Bool
leads_into i input c = (c.to == i) && (c.input == input)

from-placeless : (i : ℕ) → Placeless (leads_from i)
from-placeless i c d a = ap (λ k. k == i) a.from

into-placeless : (i input : ℕ) → Placeless (leads_into i input)
into-placeless i input c d a = ap₂ (λ t k. (t == i) && (k == input)) a.to a.input

pub same-outputs : (links rewired : List Link) → IsRewired links rewired → (i : ℕ) → uses_output i rewired ≡ uses_output i links
same-outputs links rewired is i = same-any (leads_from i) (from-placeless i) links rewired is

pub same-inputs : (links rewired : List Link) → IsRewired links rewired → (i input : ℕ) → uses_input i input rewired ≡ uses_input i input links
same-inputs links rewired is i input = same-any (leads_into i input) (into-placeless i input) links rewired is

-- The greatest input that is used is the same.
occurs-below : (i : ℕ) (c : Link) (links : List Link) → Occurs c links → c.to ≡ i → c.input + 1 ≤ inputs_used i links
occurs-below i c [] o e = absurd o
occurs-below i c (d ∷ more) (inl a) e = search (rules, le-max_left, eq-eqb, le-max_right)
occurs-below i c (d ∷ more) (inr o) e = search (rules, le-max_left, eq-eqb, le-max_right, (occurs-below i c more o e))

used-least : (i : ℕ) (links others : List Link) → AllByRecursion (λ c. Occurs c others) links → inputs_used i links ≤ inputs_used i others
used-least i [] others occur = omega arith
used-least i (c ∷ more) others occur = search (rules, max-le, occurs-below, eqb-true, (used-least i more others occur.1))

pub same-used : (links rewired : List Link) → IsRewired links rewired → (i : ℕ) → inputs_used i rewired ≡ inputs_used i links
same-used links rewired is i = search (rules, used-least)

-- what is read of the first connection that passes a test
abbrev first_with : {A : Type 0} → (Link → Bool) → (Link → A) → A → List Link → A
first_with p value none [] = none
first_with p value none (c ∷ more) = if p c then value c else first_with p value none more

-- one of them at most passes a test
abbrev pub Lone : (Link → Bool) → List Link → Type 0
Lone p [] = ⊤
Lone p (c ∷ more) = (p c ≡ true → list_any p more ≡ false) × Lone p more

module _ {A : Type 0} (p : Link → Bool) (alike : Placeless p) (value : Link → A) (valued : Placeless value) (none : A) where
  lone-value : (c : Link) (links : List Link) → Lone p links → Occurs c links → p c ≡ true → first_with p value none links ≡ value c
  lone-value c [] lone o passes = absurd o
  lone-value c (d ∷ more) lone (inl a) passes = ap (λ b. if b then value d else first_with p value none more) (sym (alike c d a) ∙ passes) ∙ sym (valued c d a)
  lone-value c (d ∷ more) lone (inr o) passes = search (rules, both_ways, occurs-passes, (lone-value c more lone.1 o passes))

  lone-same : (links others : List Link) → AllByRecursion (λ c. Occurs c others) links → Lone p others → list_any p links ≡ true → first_with p value none others ≡ first_with p value none links
  lone-same [] others occur lone some = absurd (false≢true some)
  lone-same (c ∷ more) others occur lone some = search (rules, false≢true, lone-value, (lone-same more others occur.1 lone))

none-first : {A : Type 0} (p : Link → Bool) (value : Link → A) (none : A) (links : List Link) → list_any p links ≡ false → first_with p value none links ≡ none
none-first p value none [] e = refl
none-first p value none (c ∷ more) e = search (rules, false≢true, (none-first p value none more))

-- An element leads to the same.
once-lone : (i : ℕ) (links : List Link) → Once links → Lone (leads_from i) links
once-lone i [] once = tt
once-lone i (c ∷ more) once = (λ is. subst (λ k. uses_output k more ≡ false) (eqb-true c.from i is) once.0, once-lone i more once.1)

target-first : (i : ℕ) (links : List Link) → target i links ≡ first_with (leads_from i) (λ c. Some c.to) None links
target-first i links = search rules

pub same-target : (links rewired : List Link) → IsRewired links rewired → (i : ℕ) → target i rewired ≡ target i links
same-target links rewired is i = by_test (uses_output i links) refl
  where
    by_test : (b : Bool) → uses_output i links ≡ b → target i rewired ≡ target i links
    by_test true uses =
        target-first i rewired
        ∙ lone-same (leads_from i) (from-placeless i) (λ c. Some c.to) (λ c d a. ap Some a.to) None links rewired is.kept (once-lone i rewired is.once) uses
        ∙ sym (target-first i links)
    by_test false uses =
        target-first i rewired
        ∙ none-first (leads_from i) (λ c. Some c.to) None rewired (same-outputs links rewired is i ∙ uses)
        ∙ sym (target-first i links ∙ none-first (leads_from i) (λ c. Some c.to) None links uses)

pub same-next : (links rewired : List Link) → IsRewired links rewired → (i : ℕ) → next rewired i ≡ next links i
same-next links rewired is i = ap (λ t. unwrap_or t i) (same-target links rewired is i)

-- One connection at most leads to a pull input.
fresh-input : (nodes : List Node) (i input : ℕ) (earlier : List Link) (c : Link) → is_queue (role_at nodes i) ≡ false → used_again nodes earlier c ≡ None → leads_into i input c ≡ true
    → uses_input i input earlier ≡ false
fresh-input nodes i input earlier c pull fresh is = search (rules, neither, and_parts, eqb-true, fails-not)

no-more : (nodes : List Node) (i input : ℕ) (earlier links : List Link) → is_queue (role_at nodes i) ≡ false → first_after (used_again nodes) earlier links ≡ None
    → uses_input i input earlier ≡ true → uses_input i input links ≡ false
no-more nodes i input earlier [] pull e used = refl
no-more nodes i input earlier (c ∷ more) pull e used =
    let parts = neither (used_again nodes earlier c) (first_after (used_again nodes) (c ∷ earlier) more) e in
    by_test (leads_into i input c) refl (fresh-input nodes i input earlier c pull parts.0)
    (no-more nodes i input (c ∷ earlier) more pull parts.1 (or_right (leads_into i input c) (uses_input i input earlier) used))
  where
    by_test : (b : Bool) → leads_into i input c ≡ b → (leads_into i input c ≡ true → uses_input i input earlier ≡ false) → uses_input i input more ≡ false → (b || uses_input i input more) ≡ false
    by_test b is fresh later = search (rules, neither, fresh-input, or_right, both_ways)

pub lone-input : (nodes : List Node) (i input : ℕ) (earlier links : List Link) → is_queue (role_at nodes i) ≡ false → first_after (used_again nodes) earlier links ≡ None
    → Lone (leads_into i input) links
lone-input nodes i input earlier [] pull e = tt
lone-input nodes i input earlier (c ∷ more) pull e =
    let parts = neither (used_again nodes earlier c) (first_after (used_again nodes) (c ∷ earlier) more) e in
    (λ is. no-more nodes i input (c ∷ earlier) more pull parts.1 (or_left (leads_into i input c) (uses_input i input earlier) is), lone-input nodes i input (c ∷ earlier) more pull parts.1)

source-first : (i input : ℕ) (links : List Link) → source_at links i input ≡ first_with (leads_into i input) (λ c. c.from) 0 links
source-first i input [] = refl
source-first i input (c ∷ more) = ap (λ s. if leads_into i input c then c.from else s) (source-first i input more)

-- the only one is what is connected there
pub lone-source : (i input : ℕ) (c : Link) (links : List Link) → Lone (leads_into i input) links → Occurs c links → c.to ≡ i → c.input ≡ input → source_at links i input ≡ c.from
lone-source i input c links lone o to at_input =
    source-first i input links
    ∙ lone-value (leads_into i input) (into-placeless i input) (λ c. c.from) (λ c d a. a.from) 0 c links lone o
    (and_from (c.to == i) (c.input == input) (eq-eqb c.to i to) (eq-eqb c.input input at_input))

pub same-source : (links rewired : List Link) → IsRewired links rewired → (i input : ℕ) → Lone (leads_into i input) links → uses_input i input links ≡ true
    → source_at rewired i input ≡ source_at links i input
same-source links rewired is i input lone uses =
    source-first i input rewired
    ∙ sym (lone-same (leads_into i input) (into-placeless i input) (λ c. c.from) (λ c d a. a.from) 0 rewired links is.came lone (same-inputs links rewired is i input ∙ uses))
    ∙ sym (source-first i input links)
