-- Trees that are one scheduler over queues.
use Rattle.std.proofs.Common.{◌≡◌, ℕ, Bool, true, false, List, [], ◌∷◌, length, map, nat_lt, Result, Ok, Err, suc, refl, ap, ◌∙◌, if◌then◌else◌}
use Rattle.std.proofs.lemmas.List.{append-nil}
use Rattle.clk_packet.specs.declared.fault.Fault.{Fault}
use Rattle.clk_packet.specs.declared.fault.Fault.TheVariants.{TooLarge}
use Rattle.clk_packet.specs.declared.limits.TheConstants.{MAX_INPUTS, MAX_LEVELS}
use Rattle.clk_packet.specs.Scheduler.{Scheduler}
use Rattle.clk_sched.specs.Tree.{Tree, queue, scheduler, root, leaves, height}
use Rattle.clk_sched.specs.Built.{built, row}

leaves-of-queues : (numbers : List ℕ) → leaves (row (map queue numbers)) ≡ numbers
leaves-of-queues [] = refl
leaves-of-queues (q ∷ numbers) = ap (λ qs. q ∷ qs) (leaves-of-queues numbers)

one-built : (wide high : Bool) (tree made : Tree) → ◌≡◌ {A = Result Tree Fault} (Ok tree) (if wide then Err TooLarge else (if high then Err TooLarge else Ok made)) → tree ≡ made
one-built true high tree made e = cc
one-built false true tree made e = cc
one-built false false tree made e = cc

-- The leaves of a tree that was built over queues are these, in order.
pub leaves-built : (class : Scheduler) (trees : List Tree) (numbers : List ℕ) (tree : Tree) → Ok tree ≡ built class trees → trees ≡ map queue numbers → leaves (root tree) ≡ numbers
unfolding built
leaves-built class trees numbers tree made are =
    ap (λ t. leaves (root t)) (one-built (nat_lt MAX_INPUTS (length trees)) (nat_lt MAX_LEVELS (suc (height (row trees)))) tree (scheduler class (row trees)) made)
    ∙ append-nil (leaves (row trees)) ∙ ap (λ ts. leaves (row ts)) are ∙ leaves-of-queues numbers
