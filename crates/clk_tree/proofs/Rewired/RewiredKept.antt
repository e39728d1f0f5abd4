-- Each connection of a text without a fault is one to an element of its plan, by the sources of that element.
use Rattle.std.proofs.lemmas.Bool.Decides.{nat_tests}
use Rattle.std.proofs.lemmas.Grind.{common_steps, elements}
use Rattle.std.proofs.Common.{◌≡◌, ℕ, ◌+◌, ◌<◌, ◌≤◌, ◌==◌, ◌&&◌, ◌||◌, zero, suc, Bool, true, false, not, if◌then◌else◌, List, [], ◌∷◌, ◌++◌, length, map, Some, None, slice_get, inl, inr, refl, sym, ap, ap₂, subst, ◌∙◌, arith, eqb-true, eq-eqb, zero-add, rules}
use Rattle.std.specs.List.{AllByRecursion, range_with_len}
use Rattle.std.proofs.lemmas.Bool.{and_parts, or_parts, or_cases, or_left, or_right, cases_eq, ltb-true}
use Rattle.std.proofs.lemmas.Option.{same_Some, slice_get_within}
use Rattle.clk_sched.proofs.Callers.Lists.{all-weaker}
use Rattle.clk_packet.specs.Lists.{stands_in}
use Rattle.clk_packet.proofs.Callers.Lists.{all-both}
use Rattle.clk_syntax.specs.declared.naming.class.Role.{Role}
use Rattle.clk_syntax.specs.declared.node.Node.{Node}
use Rattle.clk_syntax.specs.declared.node.Link.{Link}
use Rattle.clk_syntax.specs.Source.{Element, Wire}
use Rattle.clk_syntax.specs.Classes.{role_of}
use Rattle.clk_syntax.specs.Declarations.{first_after, fails_at}
use Rattle.clk_syntax.specs.Ports.{role_at, is_queue, has_input, uses_output, uses_input, inputs_used, inputs_of, target, next}
use Rattle.clk_syntax.specs.Faults.{nodes_of, links_of, fault_of}
use Rattle.clk_syntax.proofs.Callers.Graphs.{used_again}
use Rattle.clk_syntax.proofs.Callers.Checks.{neither, fails-not}
use Rattle.clk_tree.specs.Plan.{Planned, source_at, is_connected, all_known, plan_of}
use Rattle.clk_tree.specs.PlanTree as tree
use Rattle.clk_tree.proofs.Rewired.SameWiring.{IsAlike, Occurs}
use Rattle.clk_tree.proofs.Sound.SoundChecks.{IsRight, at-more}
use Rattle.clk_tree.proofs.Sound.SoundParents.{has-inputs}
use Rattle.clk_tree.proofs.Sound.SoundPaths.{AreSound}
use Rattle.clk_tree.proofs.Sound.SoundPlans.{sound-nodes}
use Rattle.clk_tree.proofs.Sound.SoundQueues.{length-planned, stands-filter}
use Rattle.clk_tree.proofs.Rewired.RewiredLinks.{source_link, input_links, class_links, plan_links, class-links}
use Rattle.clk_tree.proofs.Rewired.RewiredCame.{right-output, queue-input, has-senders, right-ends}
use Rattle.clk_sched.proofs.Callers.Lists.{is_number}

-- no pull input that was used is used again
abbrev pulls_again : List Node → List Link → Link → Bool
pulls_again nodes earlier c = not (is_queue (role_at nodes c.to)) && uses_input c.to c.input earlier

not-both : (b used more : Bool) → (not b && (used || more)) ≡ false → b ≡ false → (used ≡ false) × (more ≡ false)
not-both b used more e pull = search (rules, or_parts)

unpulled-after : (nodes : List Node) (earlier links : List Link) → first_after (used_again nodes) earlier links ≡ None → AllByRecursion (λ c. pulls_again nodes earlier c ≡ false) links
unpulled-after nodes earlier [] e = tt
unpulled-after nodes earlier (c ∷ links) e =
    let parts = neither (used_again nodes earlier c) (first_after (used_again nodes) (c ∷ earlier) links) e in
    let here = neither (fails_at (uses_output c.from earlier) c.from_place) (fails_at (pulls_again nodes earlier c) c.to_place) parts.0 in (
      fails-not (pulls_again nodes earlier c) c.to_place here.1,
      all-weaker (λ d. pulls_again nodes (c ∷ earlier) d ≡ false) (λ d. pulls_again nodes earlier d ≡ false) links
          (λ d f. fewer (is_queue (role_at nodes d.to)) ((c.to == d.to) && (c.input == d.input)) (uses_input d.to d.input earlier) f) (unpulled-after nodes (c ∷ earlier) links parts.1),
    )
  where
    fewer : (b used more : Bool) → (not b && (used || more)) ≡ false → (not b && more) ≡ false
    fewer b used more e = search (rules, neither, fails-not, all-weaker, or_parts)

-- so a connection to an element that is no queue is the first to its input
abbrev IsFirst : List Node → List Link → Link → Type 0
IsFirst nodes links c = is_queue (role_at nodes c.to) ≡ false → source_at links c.to c.input ≡ c.from

all-first : (nodes : List Node) (earlier links : List Link) → first_after (used_again nodes) earlier links ≡ None → AllByRecursion (IsFirst nodes links) links
all-first nodes earlier [] e = tt
all-first nodes earlier (c ∷ links) e =
    let parts = neither (used_again nodes earlier c) (first_after (used_again nodes) (c ∷ earlier) links) e in (
      λ pull. ap₂ (λ a b. if a && b then c.from else source_at links c.to c.input) (eq-eqb c.to c.to refl) (eq-eqb c.input c.input refl),
      all-both (λ d. pulls_again nodes (c ∷ earlier) d ≡ false) (IsFirst nodes links) (IsFirst nodes (c ∷ links)) links
          (λ d free is pull. ap (λ b. if b then c.from else source_at links d.to d.input)
          (not-both (is_queue (role_at nodes d.to)) ((c.to == d.to) && (c.input == d.input)) (uses_input d.to d.input earlier) free pull).0 ∙ is pull)
          (unpulled-after nodes (c ∷ earlier) links parts.1) (all-first nodes (c ∷ earlier) links parts.1),
    )

-- and its input is one of those that are used
all-used : (links : List Link) → AllByRecursion (λ (c : Link). c.input < inputs_used c.to links) links
all-used [] = tt
all-used (c ∷ links) = search (rules, eq-eqb, all-weaker, (all-used links))

-- the output of a connection is used, and leads where the element does
all-outputs : (links : List Link) → AllByRecursion (λ (c : Link). uses_output c.from links ≡ true) links
all-outputs links = grind (arith, common_steps, elements, nat_tests, or_left, eq-eqb, all-weaker, or_right)

next-target : (links : List Link) (s : ℕ) → uses_output s links ≡ true → target s links ≡ Some (next links s)
next-target [] s used = absurd (cc)
next-target (c ∷ links) s used = search (rules, (next-target links s))

-- What is known of each connection of a text without a fault.
record IsSettled (nodes : List Node) (links : List Link) (c : Link) : Type 0 where
  right : IsRight nodes c
  first : is_queue (role_at nodes c.to) ≡ false → source_at links c.to c.input ≡ c.from
  used : c.input < inputs_used c.to links
  leads : target c.from links ≡ Some c.to

all-settled : (nodes : List Node) (links : List Link) → AreSound nodes links → AllByRecursion (IsSettled nodes links) links
all-settled nodes links sound =
    all-both (λ c. IsRight nodes c × IsFirst nodes links c) (λ (c : Link). (c.input < inputs_used c.to links) × (target c.from links ≡ Some c.to)) (IsSettled nodes links) links
    (λ c a b. record { right = a.0; first = a.1; used = b.0; leads = b.1 })
    (all-both (IsRight nodes) (IsFirst nodes links) (λ c. IsRight nodes c × IsFirst nodes links c) links (λ c a b. (a, b)) sound.right (all-first nodes [] links sound.once))
    (all-both (λ (c : Link). c.input < inputs_used c.to links) (λ (c : Link). target c.from links ≡ Some c.to) (λ (c : Link). (c.input < inputs_used c.to links) × (target c.from links ≡ Some c.to))
    links (λ c a b. (a, b)) (all-used links)
    (all-both (λ (c : Link). uses_output c.from links ≡ true) (λ (c : Link). next links c.from ≡ c.to) (λ (c : Link). target c.from links ≡ Some c.to) links
    (λ c used to. next-target links c.from used ∙ ap Some to) (all-outputs links) sound.onward))

-- an input that an element has, and that a connection uses, is one of its inputs
input-within : (r : Role) (i input : ℕ) (links : List Link) → has_input (Some r) input ≡ true → is_queue (Some r) ≡ false → input < inputs_used i links → input < inputs_of i r links
input-within r i input links has pull used = search (rules, ltb-true, and_parts, eqb-true)

-- where a connection stands among those to an element
inputs-have : (i : ℕ) (f : ℕ → ℕ) (a n k : ℕ) (c : Link) → IsAlike c (source_link i k (f k)) → a ≤ k → k < a + n → Occurs c (input_links i a (map f (range_with_len a n)))
inputs-have i f a zero k c alike low high = absurd (omega arith)
inputs-have i f a (suc n) k c alike low high = elim (cases_eq k a) [
  | inl same ↦ inl (subst (λ m. IsAlike c (source_link i m (f m))) same alike)
  | inr other ↦ inr (inputs-have i f (a + 1) n k c alike (omega arith) (omega arith))
]

sent-have : (i s : ℕ) (xs : List ℕ) (c : Link) → IsAlike c (source_link i 0 s) → stands_in s xs ≡ true → Occurs c (map (source_link i 0) xs)
sent-have i s [] c alike stands = absurd (cc)
sent-have i s (x ∷ xs) c alike stands = elim (or_cases (x == s) (stands_in s xs) stands) [
  | inl here ↦ inl (subst (λ m. IsAlike c (source_link i 0 m)) (sym (eqb-true x s here)) alike)
  | inr later ↦ inr (sent-have i s xs c alike later)
]

occurs-left : (c : Link) (xs ys : List Link) → Occurs c xs → Occurs c (xs ++ ys)
occurs-left c [] ys among = absurd among
occurs-left c (x ∷ xs) ys (inl here) = inl here
occurs-left c (x ∷ xs) ys (inr later) = inr (occurs-left c xs ys later)

occurs-right : (c : Link) (xs ys : List Link) → Occurs c ys → Occurs c (xs ++ ys)
occurs-right c [] ys among = among
occurs-right c (x ∷ xs) ys among = inr (occurs-right c xs ys among)

plan-has : (c : Link) (i : ℕ) (plan : List Planned) (j : ℕ) (e : Planned) → slice_get plan j ≡ Some e → Occurs c (class_links (i + j) e.sources e.class) → Occurs c (plan_links i plan)
plan-has c i [] j e at among = absurd (cc)
plan-has c i (p ∷ plan) zero e at among = search (rules, occurs-left, same_Some, occurs-right, at-more)
plan-has c i (p ∷ plan) (suc j) e at among =
    occurs-right c (class_links i p.sources p.class) (plan_links (i + 1) plan)
    (plan-has c (i + 1) plan j e at (subst (λ n. Occurs c (class_links n e.sources e.class)) (sym (at-more i j)) among))

-- a connection that is settled is one to the element to which it leads
settled-kept : (elements : List Element) (wires : List Wire) (c : Link) → IsSettled (nodes_of elements) (links_of elements wires) c → Occurs c (plan_links 0 (plan_of elements wires))
settled-kept elements wires c h =
    let ends = right-ends elements wires c h.right in
    plan-has c 0 (plan_of elements wires) c.to ends.1.0 ends.1.1
    (subst (λ n. Occurs c (class_links n ends.1.0.sources ends.1.0.class)) (sym (zero-add c.to))
    (class-links (Occurs c) c.to ends.1.0.sources ends.1.0.class (push ends.0.0 ends.0.1 ends.1.0 ends.1.1) (pull ends.1.0 ends.1.1)))
  where
    push : (f : Planned) → slice_get (plan_of elements wires) c.from ≡ Some f → (e : Planned) → slice_get (plan_of elements wires) c.to ≡ Some e → tree.is_queue e.class ≡ true
        → Occurs c (map (source_link c.to 0) e.sources)
    push f there e at is =
        let q = has-senders elements wires c.to e at is in
        let below : c.from < length (all_known elements) =
        subst (λ n. c.from < n) (length-planned (length (all_known elements)) (links_of elements wires) 0 (all_known elements)) (slice_get_within (plan_of elements wires) c.from f there) in
        sent-have c.to c.from e.sources c (record { from = refl; output = right-output (nodes_of elements) c h.right; input = queue-input (nodes_of elements) c h.right q.role; to = refl })
        (ap (stands_in c.from) q.sources
        ∙ stands-filter (is_connected (links_of elements wires) c.to) c.from 0 (length (all_known elements)) (ap (is_number c.to) h.leads ∙ eq-eqb c.to c.to refl) (omega arith) (omega arith))

    pull : (e : Planned) → slice_get (plan_of elements wires) c.to ≡ Some e → tree.is_queue e.class ≡ false → Occurs c (input_links c.to 0 e.sources)
    pull e at other =
        let p = has-inputs elements wires c.to e at other in
        let n = inputs_of c.to (role_of e.class) (links_of elements wires) in
        let within : c.input < n = input-within (role_of e.class) c.to c.input (links_of elements wires) (ap (λ o. has_input o c.input) (sym p.role) ∙ h.right.input) p.pull h.used in
        subst (λ ss. Occurs c (input_links c.to 0 ss)) (sym p.sources)
        (inputs-have c.to (source_at (links_of elements wires) c.to) 0 n c.input c
        (record { from = sym (h.first (ap is_queue p.role ∙ p.pull)); output = right-output (nodes_of elements) c h.right; input = refl; to = refl }) (omega arith) (omega arith))

pub plan-kept : (elements : List Element) (wires : List Wire) → fault_of elements wires ≡ None → AllByRecursion (λ c. Occurs c (plan_links 0 (plan_of elements wires))) (links_of elements wires)
plan-kept elements wires none = search (rules, all-weaker, settled-kept, all-settled, sound-nodes)
