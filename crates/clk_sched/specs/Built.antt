-- Trees as their constructors build them.
use Rattle.std.specs.Prelude.{ℕ, List, [], ◌∷◌, length, nat_lt, Result, Ok, Err, suc, if◌then◌else◌}
use Rattle.clk_packet.specs.declared.fault.Fault.{Fault}
use Rattle.clk_packet.specs.declared.fault.Fault.TheVariants.{TooLarge}
use Rattle.clk_packet.specs.declared.limits.TheConstants.{MAX_INPUTS, MAX_LEVELS}
use Rattle.clk_packet.specs.Scheduler.{Scheduler}
use Rattle.clk_sched.specs.Tree.{Row, end, leaf, node, Tree, queue, scheduler, height, leaves}

-- trees at inputs that follow one another
abbrev pub row : List Tree → Row
row [] = end
row (queue q ∷ trees) = leaf q (row trees)
row (scheduler class inputs ∷ trees) = node class inputs (row trees)

-- how many schedulers stand on the longest path of a tree
abbrev pub levels : Tree → ℕ
levels (queue q) = 0
levels (scheduler class inputs) = suc (height inputs)

-- the queues of a tree, from the left
abbrev pub leaves_of : Tree → List ℕ
leaves_of (queue q) = q ∷ []
leaves_of (scheduler class inputs) = leaves inputs

-- A scheduler over some trees, or fault 18 if they are too many or too many schedulers would stand on a path.
unfoldable pub built : Scheduler → List Tree → Result Tree Fault
built class children =
    if nat_lt MAX_INPUTS (length children) then Err TooLarge else (if nat_lt MAX_LEVELS (suc (height (row children))) then Err TooLarge else Ok (scheduler class (row children)))
