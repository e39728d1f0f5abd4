-- Connections in another order, and elements at other places, pass the checks of the tree and of sizes.
use Rattle.std.proofs.lemmas.Grind.{common_steps}
use Rattle.std.proofs.Common.{◌≡◌, ℕ, ◌+◌, ◌&&◌, ◌||◌, nat_lt, zero, suc, not, if◌then◌else◌, List, [], ◌∷◌, length, Some, None, refl, ap, ap₂, ◌∙◌, rules}
use Rattle.clk_packet.specs.declared.limits.TheConstants.{MAX_INPUTS, MAX_LEVELS, MAX_ELEMENTS}
use Rattle.clk_syntax.specs.declared.node.Node.{Node}
use Rattle.clk_syntax.specs.declared.node.Link.{Link}
use Rattle.clk_syntax.specs.Declarations.{fails_at}
use Rattle.clk_syntax.specs.Ports.{role_at, is_device, is_scheduler, inputs_of, has_device, next, follow, leads, not_a_tree_from}
use Rattle.clk_syntax.specs.Size.{levels_from, is_too_large, some_too_large, too_large}
use Rattle.clk_syntax.proofs.Callers.Checks.{neither, fails-not}
use Rattle.clk_tree.proofs.Rewired.SameWiring.{IsRewired, AreSameNodes}
use Rattle.clk_tree.proofs.Rewired.WiringAgainTests.{same-next}
use Rattle.clk_tree.proofs.Rewired.WiringAgainPorts.{first-roles, same-roles, both-none, passes-at, same-inputs-of}

same-length : (nodes others : List Node) → AreSameNodes nodes others → length others ≡ length nodes
same-length nodes others same = search (rules, common_steps, first-roles)

-- A device is declared.
pub same-device : (nodes others : List Node) → AreSameNodes nodes others → has_device others ≡ has_device nodes
same-device [] [] same = refl
same-device [] (o ∷ others) same = absurd (cc)
same-device (n ∷ nodes) [] same = absurd (cc)
same-device (n ∷ nodes) (o ∷ others) same =
    let roles = first-roles n o nodes others same in
    ap₂ (λ r b. is_device (Some r) || b) roles.0 (same-device nodes others roles.1)

module _ (links rewired : List Link) (is : IsRewired links rewired) where
  same-follow : (n i : ℕ) → follow rewired n i ≡ follow links n i
  same-follow n i = search (rules, same-next)

  module _ (nodes others : List Node) (same : AreSameNodes nodes others) where
    -- The outputs from an element lead to a device.
    same-leads : (i : ℕ) → leads others rewired i ≡ leads nodes links i
    same-leads i =
        ap is_device (same-roles nodes others same (follow rewired (length others) i))
        ∙ ap (λ j. is_device (role_at nodes j)) (ap (λ n. follow rewired n i) (same-length nodes others same) ∙ same-follow (length nodes) i)

    pub is-tree : (i : ℕ) (left after : List Node) → AreSameNodes left after → not_a_tree_from i left nodes links ≡ None → not_a_tree_from i after others rewired ≡ None
    is-tree i [] [] roles none = refl
    is-tree i [] (o ∷ after) roles none = absurd (cc)
    is-tree i (n ∷ left) [] roles none = absurd (cc)
    is-tree i (n ∷ left) (o ∷ after) roles none =
        let here = first-roles n o left after roles in
        let parts = neither (fails_at (is_scheduler (Some n.role) && not (leads nodes links i)) n.place) (not_a_tree_from (i + 1) left nodes links) none in
        both-none (fails_at (is_scheduler (Some o.role) && not (leads others rewired i)) o.place) (not_a_tree_from (i + 1) after others rewired)
        (passes-at (is_scheduler (Some o.role) && not (leads others rewired i)) o.place
        (ap₂ (λ r b. is_scheduler (Some r) && not b) here.0 (same-leads i) ∙ fails-not (is_scheduler (Some n.role) && not (leads nodes links i)) n.place parts.0))
        (is-tree (i + 1) left after here.1 parts.1)

    -- The elements are as large.
    same-levels : (n i : ℕ) → levels_from others rewired n i ≡ levels_from nodes links n i
    same-levels zero i = refl
    same-levels (suc n) i =
        ap₂ (λ r m. (if is_scheduler r then 1 else 0) + m) (same-roles nodes others same i) (ap (levels_from others rewired n) (same-next links rewired is i) ∙ same-levels n (next links i))

    as-large : (i : ℕ) (n o : Node) → o.role ≡ n.role → is_too_large i o others rewired ≡ is_too_large i n nodes links
    as-large i n o e =
        ap₂ (λ m l. nat_lt MAX_INPUTS m || nat_lt MAX_LEVELS l) (ap (λ r. inputs_of i r rewired) e ∙ same-inputs-of links rewired is i n.role)
        (ap (λ m. levels_from others rewired m i) (same-length nodes others same) ∙ same-levels (length nodes) i)

    some-large : (i : ℕ) (left after : List Node) → AreSameNodes left after → some_too_large i after others rewired ≡ some_too_large i left nodes links
    some-large i [] [] roles = refl
    some-large i [] (o ∷ after) roles = absurd (cc)
    some-large i (n ∷ left) [] roles = absurd (cc)
    some-large i (n ∷ left) (o ∷ after) roles =
        let here = first-roles n o left after roles in
        ap₂ (λ a b. a || b) (as-large i n o here.0) (some-large (i + 1) left after here.1)

    pub same-large : too_large others rewired ≡ too_large nodes links
    same-large = ap₂ (λ n b. nat_lt MAX_ELEMENTS n || b) (same-length nodes others same) (some-large 0 nodes others same)
