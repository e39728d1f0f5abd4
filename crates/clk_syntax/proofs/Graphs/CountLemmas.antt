-- The inputs of an element are all connected where as many connections lead to it as it has inputs, and none is connected twice.
use Rattle.std.proofs.Common.{◌≡◌, ℕ, ◌≤◌, ◌<◌, ◌+◌, ◌==◌, ◌&&◌, ◌||◌, nat_lt, nat_le, max, zero, suc, Bool, true, false, not, if◌then◌else◌, List, [], ◌∷◌, Some, None, refl, sym, ap, ◌∙◌, subst, arith, eq-eqb, eqb-true, lt-ltb, le-ltb, ltb-true, rules}
use Rattle.std.specs.Option.{is_some}
use Rattle.std.specs.List.{AllByRecursion}
use Rattle.std.proofs.lemmas.Bool.{cases_eq, and_parts, and_right, not-false, false≢true}
use Rattle.clk_syntax.specs.declared.naming.class.Role.{Role}
use Rattle.clk_syntax.specs.declared.naming.class.Role.TheVariants as role
use Rattle.clk_syntax.specs.declared.node.Node.{Node}
use Rattle.clk_syntax.specs.declared.node.Link.{Link}
use Rattle.clk_syntax.specs.declared.limits.TheConstants.{MAX_PORT}
use Rattle.clk_syntax.specs.Declarations.{first_after}
use Rattle.clk_syntax.specs.Ports.{role_at, is_queue, has_input, uses_output, uses_input, inputs_used, inputs_of, all_connected, output_connected, bad_port, port_twice, target}
use Rattle.clk_syntax.specs.inside.Checks.{first_of, bad_link, count_at, has_inputs, leads_on}
use Rattle.clk_syntax.specs.Tables.{count_to, inputs_at}
use Rattle.clk_syntax.proofs.Graphs.FailureLemmas.{bad-port-first}
use Rattle.clk_syntax.proofs.Graphs.PortLemmas.{used_again}
use Rattle.clk_syntax.proofs.Callers.Checks.{neither, fails-not}

-- the output of an element
pub output-leads : (i : ℕ) (links : List Link) → is_some (target i links) ≡ uses_output i links
output-leads i [] = refl
output-leads i (c ∷ links) = search (rules, (output-leads i links))

pub leads-on : (i : ℕ) (r : Role) (links : List Link) → leads_on r (target i links) ≡ output_connected i r links
leads-on i r links = search (rules, output-leads)

-- how many connections lead to the inputs of an element below one
abbrev count_below : ℕ → ℕ → List Link → ℕ
count_below i n [] = 0
count_below i n (c ∷ more) = if (c.to == i) && nat_lt c.input n then count_below i n more + 1 else count_below i n more

abbrev plus : Bool → ℕ → ℕ
plus b n = if b then n + 1 else n

below-none : (i : ℕ) (links : List Link) → count_below i 0 links ≡ 0
below-none i [] = refl
below-none i (c ∷ links) = rw (and_right (c.to == i) (nat_lt c.input 0) (le-ltb c.input 0 (omega arith))) (below-none i links)

below-more : (i n : ℕ) (links : List Link) → count_below i (suc n) links ≡ count_below i n links + count_at i n links
below-more i n [] = refl
below-more i n (c ∷ links) = search (rules, (below-more i n links))

-- an input is used where a connection leads to it
more-than_none : (b : Bool) (used : Bool) (n : ℕ) → used ≡ nat_lt 0 n → (b || used) ≡ nat_lt 0 (plus b n)
more-than_none b used n e = search (rules, lt-ltb)

uses-count : (i j : ℕ) (links : List Link) → uses_input i j links ≡ nat_lt 0 (count_at i j links)
uses-count i j [] = refl
uses-count i j (c ∷ links) = more-than_none ((c.to == i) && (c.input == j)) (uses_input i j links) (count_at i j links) (uses-count i j links)

none-counted : (n : ℕ) → nat_lt 0 n ≡ false → n ≡ 0
none-counted n e = search (rules, false≢true, lt-ltb)

-- a pull input that no connection uses again has one connection at most
module _ (nodes : List Node) (i j : ℕ) (pull : is_queue (role_at nodes i) ≡ false) where
  one-more : (b : Bool) (n m : ℕ) → (b ≡ true → n ≡ 0) → n ≤ 1 → (plus b n ≤ 1 → plus b n + m ≤ 1) → n + plus b m ≤ 1
  one-more true n m none few rest = let free = none refl in let more = rest (omega arith) in omega arith
  one-more false n m none few rest = rest few

  unused : (earlier : List Link) (c : Link) → used_again nodes earlier c ≡ None → ((c.to == i) && (c.input == j)) ≡ true → count_at i j earlier ≡ 0
  unused earlier c none here =
      let tests = and_parts (c.to == i) (c.input == j) here in
      let to : c.to ≡ i = eqb-true c.to i tests.0 in
      let input : c.input ≡ j = eqb-true c.input j tests.1 in
      let free : (not (is_queue (role_at nodes c.to)) && uses_input c.to c.input earlier) ≡ false = fails-not _ c.to_place (neither _ _ none).1 in
      let also : (not (is_queue (role_at nodes i)) && uses_input i j earlier) ≡ false =
      subst (λ t. (not (is_queue (role_at nodes t)) && uses_input t j earlier) ≡ false) to (subst (λ p. (not (is_queue (role_at nodes c.to)) && uses_input c.to p earlier) ≡ false) input free) in
      let none-used : uses_input i j earlier ≡ false = ap (λ b. not b && uses_input i j earlier) (sym pull) ∙ also in
      none-counted (count_at i j earlier) (sym (uses-count i j earlier) ∙ none-used)

  once-after : (earlier links : List Link) → count_at i j earlier ≤ 1 → first_after (used_again nodes) earlier links ≡ None → count_at i j earlier + count_at i j links ≤ 1
  once-after earlier [] few e = omega arith
  once-after earlier (c ∷ links) few e =
      let parts = neither (used_again nodes earlier c) _ e in
      one-more ((c.to == i) && (c.input == j)) (count_at i j earlier) (count_at i j links) (unused earlier c parts.0) few (λ more. once-after (c ∷ earlier) links more parts.1)

  pub once : (links : List Link) → port_twice nodes links ≡ None → count_at i j links ≤ 1
  once links e = let few = once-after [] links (omega arith) e in omega arith

-- all inputs below one are connected where as many connections lead to them
both : (c b n : ℕ) → c ≤ n → b ≤ 1 → (nat_lt 0 b && (c == n)) ≡ (c + b == suc n)
both c b n few one = search (rules, cases_eq, lt-ltb, eq-eqb)

below-few : (i n : ℕ) (links : List Link) → ((j : ℕ) → count_at i j links ≤ 1) → count_below i n links ≤ n
below-few i zero links one = let none = below-none i links in omega arith
below-few i (suc n) links one = search (rules, below-none, below-more, (below-few i n links one))

below-all : (i n : ℕ) (links : List Link) → ((j : ℕ) → count_at i j links ≤ 1) → all_connected i n links ≡ (count_below i n links == n)
below-all i zero links one = sym (eq-eqb (count_below i 0 links) 0 (below-none i links))
below-all i (suc n) links one = search (rules, eq-eqb, below-none, uses-count, both, below-few, below-more, (below-all i n links one))

-- where no connection leads to an input beyond, these are all
abbrev Fits : ℕ → ℕ → Link → Type 0
Fits i n c = c.to ≡ i → c.input < n

below-fits : (i n : ℕ) (links : List Link) → AllByRecursion (Fits i n) links → count_below i n links ≡ count_to i links
below-fits i n [] fits = refl
below-fits i n (c ∷ links) fits = search (rules, lt-ltb, eqb-true, (below-fits i n links fits.1))

pub all-counted : (i n : ℕ) (links : List Link) → ((j : ℕ) → count_at i j links ≤ 1) → AllByRecursion (Fits i n) links → (count_to i links == n) ≡ all_connected i n links
all-counted i n links one fits = ap (λ m. m == n) (sym (below-fits i n links fits)) ∙ sym (below-all i n links one)

-- the connections of an element that has as many inputs as are connected
used-fits : (i n : ℕ) (links : List Link) → inputs_used i links ≤ n → AllByRecursion (Fits i n) links
used-fits i n [] le = tt
used-fits i n (c ∷ links) le = (λ same. here (c.to == i) (eq-eqb c.to i same) le, used-fits i n links (later (c.to == i) le))
  where
    here : (b : Bool) → b ≡ true → (if b then max (c.input + 1) (inputs_used i links) else inputs_used i links) ≤ n → c.input < n
    here b is le = search (rules, eq-eqb)

    later : (b : Bool) → (if b then max (c.input + 1) (inputs_used i links) else inputs_used i links) ≤ n → inputs_used i links ≤ n
    later b le = search (rules, eq-eqb)

-- and of one that has so many
pub input-there : (nodes : List Node) (c : Link) → bad_link nodes c ≡ None → has_input (role_at nodes c.to) c.input ≡ true
input-there nodes c none = not-false _ (fails-not _ c.to_place (neither _ _ none).1)

pub role-fits : (nodes : List Node) (i n : ℕ) (r : Role) (links : List Link) → role_at nodes i ≡ Some r → ((input : ℕ) → has_input (Some r) input ≡ true → input < n)
    → first_of (bad_link nodes) links ≡ None → AllByRecursion (Fits i n) links
role-fits nodes i n r [] is bound none = tt
role-fits nodes i n r (c ∷ links) is bound none =
    let parts = neither (bad_link nodes c) _ none in
    (λ same. bound c.input (ap (λ o. has_input o c.input) (sym (ap (role_at nodes) same ∙ is)) ∙ input-there nodes c parts.0), role-fits nodes i n r links is bound parts.1)

pub inputs-counted : (nodes : List Node) (i : ℕ) (r : Role) (links : List Link) → role_at nodes i ≡ Some r → bad_port nodes links ≡ None → port_twice nodes links ≡ None
    → has_inputs r (inputs_at i links) ≡ all_connected i (inputs_of i r links) links
inputs-counted nodes i role.Source links is there none = refl
inputs-counted nodes i role.Queue links is there none = refl
inputs-counted nodes i role.Scheduler links is there none =
    all-counted i (max 1 (inputs_used i links)) links (λ j. once nodes i j (ap is_queue is) links none) (used-fits i (max 1 (inputs_used i links)) links (omega arith))
inputs-counted nodes i (role.SchedulerOf n) links is there none =
    all-counted i n links (λ j. once nodes i j (ap is_queue is) links none)
    (role-fits nodes i n (role.SchedulerOf n) links is (λ input e. ltb-true input n (and_parts (nat_lt input n) (nat_le input MAX_PORT) e).0) (bad-port-first nodes links ∙ there))
inputs-counted nodes i role.Device links is there none =
    all-counted i 1 links (λ j. once nodes i j (ap is_queue is) links none)
    (role-fits nodes i 1 role.Device links is (λ input e. let zeroth : input ≡ 0 = eqb-true input 0 e in omega arith) (bad-port-first nodes links ∙ there))
