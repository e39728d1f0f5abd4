-- Connections in another order, and with other places, give the same plan.
use Rattle.std.proofs.Common.{◌≡◌, ℕ, ◌+◌, ◌<◌, zero, suc, Bool, false, List, [], ◌∷◌, map, filter, Option, Some, None, option_map, refl, sym, ap, ap₂, ◌∙◌, arith, rules}
use Rattle.std.specs.List.{range_with_len, cons_option}
use Rattle.clk_syntax.specs.declared.naming.class.Role.{Role}
use Rattle.clk_syntax.specs.declared.node.Node.{Node}
use Rattle.clk_syntax.specs.declared.node.Link.{Link}
use Rattle.clk_syntax.specs.Source.{Element, Wire}
use Rattle.clk_syntax.specs.Classes.{Class, role_of}
use Rattle.clk_syntax.specs.Declarations.{class_of}
use Rattle.clk_syntax.specs.Ports.{role_at, is_queue, inputs_of}
use Rattle.clk_syntax.specs.Faults.{node, nodes_of, links_of, nodes_fault, fault_of}
use Rattle.clk_syntax.proofs.Callers.Checks.{neither}
use Rattle.clk_tree.specs.Plan.{Known, all_known, source_at, sources_of, planned_from, plan_of}
use Rattle.clk_tree.proofs.Sound.SoundNodes.{known_as}
use Rattle.clk_tree.proofs.Sound.SoundPaths.{AreSound, are-sound, input-used}
use Rattle.clk_tree.proofs.Sound.SoundPlans.{inputs_at, pull-sources}
use Rattle.clk_tree.proofs.Rewired.SameWiring.{IsRewired, role_in}
use Rattle.clk_tree.proofs.Rewired.WiringAgainTests.{same-target, same-source, lone-input}
use Rattle.clk_tree.proofs.Rewired.WiringAgainPorts.{same-inputs-of}

abbrev pub known_role : Known → Role
known_role k = role_of k.class

-- what agrees at each member agrees on all
same-filter : (p q : ℕ → Bool) (xs : List ℕ) → ((x : ℕ) → p x ≡ q x) → filter p xs ≡ filter q xs
same-filter p q xs each = search rules

same-range : (f g : ℕ → ℕ) (a n : ℕ) → ((k : ℕ) → k < a + n → f k ≡ g k) → map f (range_with_len a n) ≡ map g (range_with_len a n)
same-range f g a zero each = refl
same-range f g a (suc n) each = ap₂ (λ x xs. x ∷ xs) (each a (omega arith)) (same-range f g (a + 1) n (λ k below. each k (omega arith)))

module _ (nodes : List Node) (links rewired : List Link) (is : IsRewired links rewired) (sound : AreSound nodes links) where
  -- What is connected to the inputs of an element that is no queue.
  same-inputs-at : (i : ℕ) (r : Role) → role_at nodes i ≡ Some r → is_queue (Some r) ≡ false → inputs_at rewired i r ≡ inputs_at links i r
  same-inputs-at i r at pull =
      ap (λ n. map (source_at rewired i) (range_with_len 0 n)) (same-inputs-of links rewired is i r)
      ∙ same-range (source_at rewired i) (source_at links i) 0 (inputs_of i r links)
      (λ k below. same-source links rewired is i k (lone-input nodes i k [] links (ap is_queue at ∙ pull) sound.once)
      (input-used i (inputs_of i r links) k links (sound.connected i r at).inputs (omega arith)))

  pulled : (count i : ℕ) (r : Role) → role_at nodes i ≡ Some r → is_queue (Some r) ≡ false → sources_of count rewired i r ≡ sources_of count links i r
  pulled count i r at pull = pull-sources count rewired i r pull ∙ same-inputs-at i r at pull ∙ sym (pull-sources count links i r pull)

  pub same-sources : (count i : ℕ) (r : Role) → role_at nodes i ≡ Some r → sources_of count rewired i r ≡ sources_of count links i r
  same-sources count i r at = search (rules, same-filter, same-target, pulled)

  same-planned : (count i : ℕ) (ks : List Known) (ns : List Node) → map known_role ks ≡ map role_in ns → ((j : ℕ) → role_at ns j ≡ role_at nodes (i + j))
      → planned_from count rewired i ks ≡ planned_from count links i ks
  same-planned count i [] ns roles at = refl
  same-planned count i (k ∷ ks) [] roles at = absurd (cc)
  same-planned count i (k ∷ ks) (n ∷ ns) roles at =
      let here : known_role k ≡ n.role = cc in
      let later : map known_role ks ≡ map role_in ns = cc in
      let first : i + 0 ≡ i = omega arith in
      ap₂ (λ sources more. record { name = k.name; class = k.class; sources = sources } ∷ more)
      (same-sources count i (known_role k) (sym (ap (λ j. role_at nodes j) first) ∙ sym (at 0) ∙ ap Some (sym here)))
      (same-planned count (i + 1) ks ns later (λ j. at (suc j) ∙ ap (role_at nodes) (search rules)))

pub rewired-plan : (nodes : List Node) (links rewired : List Link) → IsRewired links rewired → nodes_fault nodes links ≡ None
    → (count : ℕ) (ks : List Known) → map known_role ks ≡ map role_in nodes → planned_from count rewired 0 ks ≡ planned_from count links 0 ks
rewired-plan nodes links rewired is none count ks roles =
    same-planned nodes links rewired is (are-sound nodes links none) count 0 ks nodes roles (λ j. ap (role_at nodes) (search rules))

-- the roles of what is declared
pub known-roles : (elements : List Element) → map known_role (all_known elements) ≡ map role_in (nodes_of elements)
known-roles [] = refl
known-roles (e ∷ more) = by_class (class_of e) (known-roles more)
  where
    by_class : (o : Option Class) → map known_role (all_known more) ≡ map role_in (nodes_of more)
        → map known_role (cons_option (option_map (known_as e) o) (all_known more)) ≡ map role_in (cons_option (option_map (node e.name.place) o) (nodes_of more))
    by_class o same = search rules

-- What is declared once more, with its connections in another order, has the same plan.
pub same-plan : (elements again : List Element) (wires joined : List Wire) → fault_of elements wires ≡ None → all_known again ≡ all_known elements
    → IsRewired (links_of elements wires) (links_of again joined) → plan_of again joined ≡ plan_of elements wires
same-plan elements again wires joined none known is = search (rules, rewired-plan, neither, known-roles)
