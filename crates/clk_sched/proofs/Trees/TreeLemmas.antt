-- What the constructors of trees build.
use Rattle.std.proofs.lemmas.Grind.{common_steps}
use Rattle.std.proofs.Common.{◌≡◌, ℕ, ◌+◌, ◌-◌, ◌<◌, ◌≤◌, ◌==◌, ◌||◌, Bool, List, [], ◌∷◌, ◌++◌, length, take, drop, get_or, Ok, Err, refl, append_assoc, arith, rules}
use Rattle.clk_packet.specs.declared.fault.Fault.TheVariants.{TooLarge}
use Rattle.clk_packet.specs.declared.limits.TheConstants.{MAX_INPUTS, MAX_LEVELS}
use Rattle.clk_packet.specs.Lists.{stands_in}
use Rattle.clk_packet.specs.Scheduler.{Scheduler}
use Rattle.clk_sched.specs.Tree.{Tree, queue, scheduler, root, height, width, leaves, Row, end, leaf, node, IsWellFormed, IsSound}
use Rattle.clk_sched.specs.Built.{built, row, leaves_of}
use Rattle.clk_sched.specs.Session.{elements}
use Rattle.clk_sched.specs.inside.LaidOut.{elements_of}

pub built-wide : (class : Scheduler) (children : List Tree) → MAX_INPUTS < length children → Err TooLarge ≡ built class children
unfolding built
built-wide class children wide = search rules

pub built-high : (class : Scheduler) (children : List Tree) → length children ≤ MAX_INPUTS → MAX_LEVELS ≤ height (row children) → Err TooLarge ≡ built class children
unfolding built
built-high class children narrow high = search rules

pub built-fits : (class : Scheduler) (children : List Tree) → length children ≤ MAX_INPUTS → height (row children) < MAX_LEVELS → Ok (scheduler class (row children)) ≡ built class children
unfolding built
built-fits class children narrow low = search rules

pub width-row : (trees : List Tree) → length trees ≡ width (row trees)
width-row [] = refl
width-row (queue q ∷ trees) = omega (arith, width-row trees)
width-row (scheduler class inputs ∷ trees) = omega (arith, width-row trees)

or_assoc : (a b c : Bool) → ((a || b) || c) ≡ (a || (b || c))
or_assoc a b c = search rules

pub stands_in-append : (q : ℕ) (ps rs : List ℕ) → stands_in q (ps ++ rs) ≡ (stands_in q ps || stands_in q rs)
stands_in-append q [] rs = refl
stands_in-append q (p ∷ ps) rs = rw (stands_in-append q ps rs, or_assoc (p == q) (stands_in q ps) (stands_in q rs)) refl

-- what stands after the first of a list, as code takes it
abbrev pub rest : {X : Type 0} → List X → List X
rest xs = take (length xs - 1) (drop 1 xs)

pub first-rest : {X : Type 0} (xs : List X) (first : X) → 1 ≤ length xs → first ≡ get_or xs 0 first → xs ≡ first ∷ rest xs
first-rest xs first some e = grind (arith, common_steps)

-- the queues of the first tree and of the others, after more
pub leaves-row : (before : List ℕ) (trees : List Tree) (first : Tree) → 1 ≤ length trees → first ≡ get_or trees 0 first → (before ++ leaves_of first) ++ leaves (row (rest trees)) ≡ before ++ leaves (row trees)
leaves-row before trees first h e = grind (arith, common_steps, append_assoc)

pub elements-row : (trees : List Tree) (first : Tree) → 1 ≤ length trees → first ≡ get_or trees 0 first → (elements_of first + elements (row (rest trees)) ≡ elements (row trees)) × (1 ≤ elements_of first)
elements-row trees first h e = grind (arith, common_steps)

pub leaves-root : (tree : Tree) → leaves_of tree ≡ leaves (root tree)
leaves-root tree = search rules

-- what is well formed is sound
pub sound-formed : (r : Row) → IsWellFormed r → IsSound r
sound-formed end h = tt
sound-formed (leaf q r) h = sound-formed r h
sound-formed (node class inputs r) h = (h.0.0, h.1, sound-formed inputs h.2, sound-formed r h.3)
