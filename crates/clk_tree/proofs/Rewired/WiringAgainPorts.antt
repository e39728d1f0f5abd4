-- Connections in another order, and with other places, pass the checks of ports.
use Rattle.std.proofs.lemmas.Bool.Decides.{nat_tests}
use Rattle.std.proofs.lemmas.Grind.{common_steps, elements}
use Rattle.std.proofs.Common.{◌≡◌, ℕ, ◌+◌, ◌==◌, ◌&&◌, zero, suc, Bool, true, false, not, List, [], ◌∷◌, map, Option, Some, None, refl, sym, ap, ap₂, ◌∙◌, eq-eqb, eqb-true, ne_eqb, arith, rules}
use Rattle.std.specs.Bool.{⊤}
use Rattle.std.specs.Option.{option_or}
use Rattle.std.specs.List.{AllByRecursion}
use Rattle.std.proofs.lemmas.Bool.{both_ways, and_parts, or_parts, or_from, not-false}
use Rattle.clk_syntax.specs.declared.naming.class.Role.{Role}
use Rattle.clk_syntax.specs.declared.node.Node.{Node}
use Rattle.clk_syntax.specs.declared.node.Link.{Link}
use Rattle.clk_syntax.specs.Declarations.{first_after, fails_at}
use Rattle.clk_syntax.specs.Ports.{role_at, is_queue, differ, uses_output, uses_input, inputs_of, all_connected, output_connected, bad_port, port_twice, port_missing_from, wrong_kind}
use Rattle.clk_syntax.specs.inside.Checks.{first_of, bad_link, mixed_link, is_connected}
use Rattle.clk_syntax.proofs.Callers.Graphs.{bad-port-first, wrong-kind-first, used_again}
use Rattle.clk_syntax.proofs.Callers.Checks.{neither, fails-not}
use Rattle.clk_tree.specs.Plan.{source_at}
use Rattle.clk_tree.proofs.Sound.SoundChecks.{IsRight, all-right}
use Rattle.clk_tree.proofs.Distinct.DistinctPlans.{Once}
use Rattle.clk_tree.proofs.Rewired.SameWiring.{IsAlike, Occurs, IsRewired, role_in, AreSameNodes}
use Rattle.clk_tree.proofs.Rewired.WiringAgainTests.{all-occur, same-outputs, same-inputs, same-used, leads_from, leads_into, lone-input, lone-source}
use Rattle.clk_packet.proofs.Callers.Lists.{all-both}

-- elements have the same roles at other places
same-cons : (a b : Role) (xs ys : List Role) → a ∷ xs ≡ b ∷ ys → (a ≡ b) × (xs ≡ ys)
same-cons a b xs ys e = (cc, cc)

-- the first of them, and those after it
pub first-roles : (n o : Node) (nodes others : List Node) → AreSameNodes (n ∷ nodes) (o ∷ others) → (o.role ≡ n.role) × AreSameNodes nodes others
first-roles n o nodes others same = same-cons o.role n.role (map role_in others) (map role_in nodes) same

pub same-roles : (nodes others : List Node) → AreSameNodes nodes others → (i : ℕ) → role_at others i ≡ role_at nodes i
same-roles [] [] same i = refl
same-roles [] (o ∷ others) same i = absurd (cc)
same-roles (n ∷ nodes) [] same i = absurd (cc)
same-roles (n ∷ nodes) (o ∷ others) same zero = ap Some (first-roles n o nodes others same).0
same-roles (n ∷ nodes) (o ∷ others) same (suc i) = same-roles nodes others (first-roles n o nodes others same).1 i

-- what fails nowhere
pub both-none : {A : Type 0} (a b : Option A) → a ≡ None → b ≡ None → option_or a b ≡ None
both-none a b first later = ap (λ o. option_or o b) first ∙ later

pub holds-at : (b : Bool) (place : ℕ) → b ≡ true → fails_at (not b) place ≡ None
holds-at b place is = ap (λ c. fails_at (not c) place) is

pub passes-at : (b : Bool) (place : ℕ) → b ≡ false → fails_at b place ≡ None
passes-at b place is = ap (λ c. fails_at c place) is

none-of-all : {A : Type 0} (fails : A → Option ℕ) (xs : List A) → AllByRecursion (λ x. fails x ≡ None) xs → first_of fails xs ≡ None
none-of-all fails [] all = refl
none-of-all fails (x ∷ xs) all = both-none (fails x) (first_of fails xs) all.0 (none-of-all fails xs all.1)

-- Each connection has its ports, and is of one kind.
right-again : (nodes others : List Node) → AreSameNodes nodes others → (c d : Link) → IsAlike c d → IsRight nodes d → IsRight others c
right-again nodes others same c d a is = search (rules, same-roles)

one-kind : (a b : Bool) → a ≡ b → differ a b ≡ false
one-kind a b e = search rules

has-ports : (nodes : List Node) (c : Link) → IsRight nodes c → bad_link nodes c ≡ None
has-ports nodes c is = search (rules, both-none, holds-at)

is-unmixed : (nodes : List Node) (c : Link) → IsRight nodes c → mixed_link nodes c ≡ None
is-unmixed nodes c is = search (rules, passes-at, one-kind)

pub links-right : (nodes others : List Node) (links rewired : List Link) → AreSameNodes nodes others → IsRewired links rewired → bad_port nodes links ≡ None → wrong_kind nodes links ≡ None
    → (bad_port others rewired ≡ None) × (wrong_kind others rewired ≡ None)
links-right nodes others links rewired same is bad mixed =
    let right = all-right nodes links (bad-port-first nodes links ∙ bad) (wrong-kind-first nodes links ∙ mixed) in (
      sym (bad-port-first others rewired) ∙ none-of-all (bad_link others) rewired (each-right (λ c. bad_link others c ≡ None) (has-ports others) right),
      sym (wrong-kind-first others rewired) ∙ none-of-all (mixed_link others) rewired (each-right (λ c. mixed_link others c ≡ None) (is-unmixed others) right),
    )
  where
    each-right : (P : Link → Type 0) → ((c : Link) → IsRight others c → P c) → AllByRecursion (IsRight nodes) links → AllByRecursion P rewired
    each-right P gives right = all-occur (IsRight nodes) P (λ c d a is. gives c (right-again nodes others same c d a is)) rewired links is.came right

-- Two connections use no output, and no pull input, both.
record IsApart (nodes : List Node) (c d : Link) : Type 0 where
  output : leads_from d.from c ≡ false
  input : is_queue (role_at nodes d.to) ≡ false → leads_into d.to d.input c ≡ false

abbrev AreApart : List Node → List Link → Type 0
AreApart nodes [] = ⊤
AreApart nodes (c ∷ more) = AllByRecursion (IsApart nodes c) more × AreApart nodes more

no-output : (nodes : List Node) (d : Link) (earlier : List Link) → AllByRecursion (λ c. IsApart nodes c d) earlier → uses_output d.from earlier ≡ false
no-output nodes d [] apart = refl
no-output nodes d (c ∷ earlier) apart = or_from (leads_from d.from c) (uses_output d.from earlier) apart.0.output (no-output nodes d earlier apart.1)

no-input : (nodes : List Node) (d : Link) (earlier : List Link) → is_queue (role_at nodes d.to) ≡ false → AllByRecursion (λ c. IsApart nodes c d) earlier → uses_input d.to d.input earlier ≡ false
no-input nodes d [] pull apart = refl
no-input nodes d (c ∷ earlier) pull apart = or_from (leads_into d.to d.input c) (uses_input d.to d.input earlier) (apart.0.input pull) (no-input nodes d earlier pull apart.1)

none-used : (nodes : List Node) (earlier : List Link) (d : Link) → AllByRecursion (λ c. IsApart nodes c d) earlier → used_again nodes earlier d ≡ None
none-used nodes earlier d apart = search (rules, both-none, passes-at, no-output, no-input)

none-again : (nodes : List Node) (earlier links : List Link) → AllByRecursion (λ d. AllByRecursion (λ c. IsApart nodes c d) earlier) links → AreApart nodes links
    → first_after (used_again nodes) earlier links ≡ None
none-again nodes earlier [] fresh apart = refl
none-again nodes earlier (c ∷ more) fresh apart =
    both-none (used_again nodes earlier c) (first_after (used_again nodes) (c ∷ earlier) more) (none-used nodes earlier c fresh.0)
    (none-again nodes (c ∷ earlier) more
    (all-both (IsApart nodes c) (λ d. AllByRecursion (λ b. IsApart nodes b d) earlier) (λ d. AllByRecursion (λ b. IsApart nodes b d) (c ∷ earlier)) more
    (λ d here before. (here, before)) apart.0 fresh.1)
    apart.1)

fresh-first : (nodes : List Node) (links : List Link) → AllByRecursion (λ d. AllByRecursion (λ c. IsApart nodes c d) []) links
fresh-first nodes links = grind (arith, common_steps, elements, nat_tests)

-- Those that came: two to one pull input would come from one element.
module _ (nodes others : List Node) (links : List Link) (same : AreSameNodes nodes others) (twice : port_twice nodes links ≡ None) where
  from-of : (i input : ℕ) (c : Link) → is_queue (role_at nodes i) ≡ false → Occurs c links → c.to ≡ i → c.input ≡ input → source_at links i input ≡ c.from
  from-of i input c pull o to at_input = lone-source i input c links (lone-input nodes i input [] links pull twice) o to at_input

  apart-from : (c d : Link) → Occurs c links → Occurs d links → leads_from c.from d ≡ false → IsApart others c d
  apart-from c d oc od differ = record {
    output = ne_eqb c.from d.from (λ e. both_ways (leads_from c.from d) differ (eq-eqb d.from c.from (sym e)));
    input = λ pull. by_test (leads_into d.to d.input c) refl (sym (ap is_queue (same-roles nodes others same d.to)) ∙ pull);
  }
    where
      by_test : (b : Bool) → leads_into d.to d.input c ≡ b → is_queue (role_at nodes d.to) ≡ false → b ≡ false
      by_test true is pull =
          let tests = and_parts (c.to == d.to) (c.input == d.input) is in
          let first = from-of d.to d.input c pull oc (eqb-true c.to d.to tests.0) (eqb-true c.input d.input tests.1) in
          let second = from-of d.to d.input d pull od refl refl in
          absurd (both_ways (leads_from c.from d) differ (eq-eqb d.from c.from (sym second ∙ first)))
      by_test false is pull = refl

  all-apart : (c : Link) (more : List Link) → Occurs c links → AllByRecursion (λ d. Occurs d links) more → uses_output c.from more ≡ false → AllByRecursion (IsApart others c) more
  all-apart c [] o occur once = tt
  all-apart c (d ∷ more) o occur once =
      let tests = or_parts (leads_from c.from d) (uses_output c.from more) once in
      (apart-from c d o occur.0 tests.0, all-apart c more o occur.1 tests.1)

  are-apart : (rewired : List Link) → AllByRecursion (λ d. Occurs d links) rewired → Once rewired → AreApart others rewired
  are-apart [] occur once = tt
  are-apart (c ∷ more) occur once = (all-apart c more occur.0 occur.1 once.0, are-apart more occur.1 once.1)

  pub none-twice : (rewired : List Link) → IsRewired links rewired → port_twice others rewired ≡ None
  none-twice rewired is = none-again others [] rewired (fresh-first others rewired) (are-apart rewired is.came is.once)

-- The same ports are connected.
module _ (links rewired : List Link) (is : IsRewired links rewired) where
  pub same-inputs-of : (i : ℕ) (r : Role) → inputs_of i r rewired ≡ inputs_of i r links
  same-inputs-of i r = search (rules, same-used)

  all-same : (i n : ℕ) → all_connected i n rewired ≡ all_connected i n links
  all-same i zero = refl
  all-same i (suc n) = ap₂ (λ a b. a && b) (same-inputs links rewired is i n) (all-same i n)

  output-same : (i : ℕ) (r : Role) → output_connected i r rewired ≡ output_connected i r links
  output-same i r = search (rules, same-outputs)

  same-connected : (i : ℕ) (r : Role) → is_connected i r rewired ≡ is_connected i r links
  same-connected i r = ap₂ (λ a b. a && b) (output-same i r) (ap (λ n. all_connected i n rewired) (same-inputs-of i r) ∙ all-same i (inputs_of i r links))

  pub none-missing : (i : ℕ) (nodes others : List Node) → AreSameNodes nodes others → port_missing_from i nodes links ≡ None → port_missing_from i others rewired ≡ None
  none-missing i [] [] same none = refl
  none-missing i [] (o ∷ others) same none = absurd (cc)
  none-missing i (n ∷ nodes) [] same none = absurd (cc)
  none-missing i (n ∷ nodes) (o ∷ others) same none =
      let roles = first-roles n o nodes others same in
      let parts = neither (fails_at (not (is_connected i n.role links)) n.place) (port_missing_from (i + 1) nodes links) none in
      let here = not-false (is_connected i n.role links) (fails-not (not (is_connected i n.role links)) n.place parts.0) in
      both-none (fails_at (not (is_connected i o.role rewired)) o.place) (port_missing_from (i + 1) others rewired)
      (holds-at (is_connected i o.role rewired) o.place (same-connected i o.role ∙ ap (λ r. is_connected i r links) roles.0 ∙ here))
      (none-missing (i + 1) nodes others roles.1 parts.1)
