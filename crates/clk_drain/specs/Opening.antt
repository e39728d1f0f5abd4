-- The queues of a device among those of a plan, told by the devices at the ends of their paths.
use Rattle.std.specs.Prelude.{ℕ, ◌==◌, List, [], ◌∷◌, suc, if◌then◌else◌}
use Rattle.clk_tree.specs.PlanParts.{SharedQueue, Queued, shared_at}

-- the queues of a device among these queues of a plan, of which the first has the number `leaf`
abbrev pub queues_at : ℕ → ℕ → List Queued → List SharedQueue
queues_at device leaf [] = []
queues_at device leaf (q ∷ queues) =
    if q.device == device then shared_at leaf q ∷ queues_at device (suc leaf) queues else queues_at device (suc leaf) queues
