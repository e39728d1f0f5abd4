-- What a check that finds nothing says of each member.
use Rattle.std.proofs.Common.{◌≡◌, ℕ, ◌+◌, ◌≤◌, ◌==◌, ◌&&◌, zero, suc, true, false, not, if◌then◌else◌, List, [], ◌∷◌, Option, Some, None, refl, ap, subst, ◌∙◌, arith, eq-eqb, unwrap_or, rules}
use Rattle.std.specs.List.{AllByRecursion}
use Rattle.std.proofs.lemmas.Bool.{and_parts, or_parts, not-false}
use Rattle.clk_packet.specs.declared.limits.TheConstants.{MAX_INPUTS, MAX_LEVELS}
use Rattle.clk_packet.proofs.Callers.Lists.{all-both}
use Rattle.clk_syntax.specs.declared.naming.class.Role.{Role}
use Rattle.clk_syntax.specs.declared.node.Node.{Node}
use Rattle.clk_syntax.specs.declared.node.Link.{Link}
use Rattle.clk_syntax.specs.Declarations.{first_after, fails_at}
use Rattle.clk_syntax.specs.Ports.{role_at, is_source, is_queue, is_scheduler, has_output, has_input, uses_output, uses_input, inputs_of, all_connected, output_connected, port_missing_from, not_a_tree_from, leads, next, target}
use Rattle.clk_syntax.specs.Size.{is_too_large, some_too_large, levels}
use Rattle.clk_syntax.specs.inside.Checks.{first_of, bad_link, mixed_link}
use Rattle.clk_syntax.proofs.Callers.Graphs.{used_again}
use Rattle.clk_syntax.proofs.Callers.Checks.{neither, fails-not}

-- what fails at no member
pub each-of : {A : Type 0} (fails : A → Option ℕ) (xs : List A) → first_of fails xs ≡ None → AllByRecursion (λ x. fails x ≡ None) xs
each-of fails [] e = tt
each-of fails (x ∷ xs) e = let parts = neither (fails x) (first_of fails xs) e in (parts.0, each-of fails xs parts.1)

-- The ends of a connection that is right: its output is there, its input is there, and a push output leads to a push input.
pub record IsRight (nodes : List Node) (c : Link) : Type 0 where
  pub output : has_output (role_at nodes c.from) c.output ≡ true
  pub input : has_input (role_at nodes c.to) c.input ≡ true
  pub kind : is_source (role_at nodes c.from) ≡ is_queue (role_at nodes c.to)

right : (nodes : List Node) (c : Link) → bad_link nodes c ≡ None → mixed_link nodes c ≡ None → IsRight nodes c
right nodes c there kind = search (rules, neither, not-false, fails-not)

pub all-right : (nodes : List Node) (links : List Link) → first_of (bad_link nodes) links ≡ None → first_of (mixed_link nodes) links ≡ None → AllByRecursion (IsRight nodes) links
all-right nodes links there kind = search (rules, all-both, right, each-of)

-- no output that was used is used again
pub unused-after : (nodes : List Node) (earlier links : List Link) → first_after (used_again nodes) earlier links ≡ None → AllByRecursion (λ (c : Link). uses_output c.from earlier ≡ false) links
unused-after nodes earlier [] e = tt
unused-after nodes earlier (c ∷ links) e =
    let parts = neither (used_again nodes earlier c) (first_after (used_again nodes) (c ∷ earlier) links) e in
    let here = neither (fails_at (uses_output c.from earlier) c.from_place) (fails_at (not (is_queue (role_at nodes c.to)) && uses_input c.to c.input earlier) c.to_place) parts.0 in (
      fails-not (uses_output c.from earlier) c.from_place here.0,
      all-both (λ (d : Link). uses_output d.from (c ∷ earlier) ≡ false) (λ (d : Link). uses_output d.from (c ∷ earlier) ≡ false) (λ (d : Link). uses_output d.from earlier ≡ false) links
          (λ d f g. (or_parts (c.from == d.from) (uses_output d.from earlier) f).1) (unused-after nodes (c ∷ earlier) links parts.1) (unused-after nodes (c ∷ earlier) links parts.1),
    )

-- so each connection is the one that its element has
pub all-next : (nodes : List Node) (earlier links : List Link) → first_after (used_again nodes) earlier links ≡ None → AllByRecursion (λ (c : Link). next links c.from ≡ c.to) links
all-next nodes earlier [] e = tt
all-next nodes earlier (c ∷ links) e =
    let parts = neither (used_again nodes earlier c) (first_after (used_again nodes) (c ∷ earlier) links) e in
    let later = all-next nodes (c ∷ earlier) links parts.1 in (
      ap (λ b. unwrap_or (if b then Some c.to else target c.from links) c.from) (eq-eqb c.from c.from refl),
      all-both (λ (d : Link). uses_output d.from (c ∷ earlier) ≡ false) (λ (d : Link). next links d.from ≡ d.to) (λ (d : Link). next (c ∷ links) d.from ≡ d.to) links
          (λ d free is. ap (λ b. unwrap_or (if b then Some c.to else target d.from links) d.from) (or_parts (c.from == d.from) (uses_output d.from earlier) free).0 ∙ is) (unused-after nodes (c ∷ earlier) links parts.1) later,
    )

-- the ports of the element at a place are connected
pub record IsConnected (links : List Link) (i : ℕ) (r : Role) : Type 0 where
  pub output : output_connected i r links ≡ true
  pub inputs : all_connected i (inputs_of i r links) links ≡ true

connected : (links : List Link) (i : ℕ) (r : Role) (place : ℕ) → fails_at (not (output_connected i r links && all_connected i (inputs_of i r links) links)) place ≡ None → IsConnected links i r
connected links i r place e = search (rules, not-false, fails-not, and_parts)

pub at-more : (i j : ℕ) → i + 1 + j ≡ i + suc j
at-more i j = omega arith

pub connected-at : (links : List Link) (i : ℕ) (nodes : List Node) (j : ℕ) (r : Role) → port_missing_from i nodes links ≡ None → role_at nodes j ≡ Some r → IsConnected links (i + j) r
connected-at links i [] j r none at = absurd (cc)
connected-at links i (node ∷ nodes) zero r none at = search (rules, neither, connected, at-more)
connected-at links i (node ∷ nodes) (suc j) r none at =
    let parts = neither (fails_at (not (output_connected i node.role links && all_connected i (inputs_of i node.role links) links)) node.place) (port_missing_from (i + 1) nodes links) none in
    subst (λ k. IsConnected links k r) (at-more i j) (connected-at links (i + 1) nodes j r parts.1 at)

-- the way from a scheduler leads to a device
pub leads-at : (all : List Node) (links : List Link) (i : ℕ) (nodes : List Node) (j : ℕ) (r : Role) → not_a_tree_from i nodes all links ≡ None → role_at nodes j ≡ Some r
    → is_scheduler (Some r) ≡ true → leads all links (i + j) ≡ true
leads-at all links i [] j r none at is = absurd (cc)
leads-at all links i (node ∷ nodes) zero r none at is = search (rules, neither, at-more)
leads-at all links i (node ∷ nodes) (suc j) r none at is =
    let parts = neither (fails_at (is_scheduler (Some node.role) && not (leads all links i)) node.place) (not_a_tree_from (i + 1) nodes all links) none in
    subst (λ k. leads all links k ≡ true) (at-more i j) (leads-at all links (i + 1) nodes j r parts.1 at is)

-- an element is within the limits
pub record IsSmall (nodes : List Node) (links : List Link) (i : ℕ) (r : Role) : Type 0 where
  pub inputs : inputs_of i r links ≤ MAX_INPUTS
  pub levels : levels nodes links i ≤ MAX_LEVELS

small : (all : List Node) (links : List Link) (i : ℕ) (node : Node) → is_too_large i node all links ≡ false → IsSmall all links i node.role
small all links i node fits = search (rules, or_parts)

pub small-at : (all : List Node) (links : List Link) (i : ℕ) (nodes : List Node) (j : ℕ) (r : Role) → some_too_large i nodes all links ≡ false → role_at nodes j ≡ Some r → IsSmall all links (i + j) r
small-at all links i [] j r fits at = absurd (cc)
small-at all links i (node ∷ nodes) zero r fits at = search (rules, or_parts, small, at-more)
small-at all links i (node ∷ nodes) (suc j) r fits at =
    let parts = or_parts (is_too_large i node all links) (some_too_large (i + 1) nodes all links) fits in
    subst (λ k. IsSmall all links k r) (at-more i j) (small-at all links (i + 1) nodes j r parts.1 at)
