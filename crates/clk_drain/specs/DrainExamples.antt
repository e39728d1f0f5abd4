-- What a drain of a worked session may return.
use Rattle.std.specs.Prelude.{List, [], ◌∷◌, Some, true, false}
use Rattle.atomic_table.specs.Seated.{TableId}
use Rattle.clk_packet.specs.declared.packet.Packet.{Packet}
use Rattle.clk_packet.specs.declared.packet.Kind.TheVariants.{TailDrop}
use Rattle.clk_ruled.specs.declared.view.QueueSetup.{QueueSetup}
use Rattle.clk_ruled.specs.Queue.{setup_of}
use Rattle.clk_sched.specs.declared.visit.Visit.{Visit}
use Rattle.clk_sched.specs.Examples.Priority.{p0_0}
use Rattle.clk_sched.specs.Log.{asking}
use Rattle.clk_sched.specs.Session.{Progress}
use Rattle.clk_sched.specs.Tree.{queue}
use Rattle.clk_drain.specs.Examples.{p0_1, tally}
use Rattle.clk_drain.specs.Line.{LineLists}
use Rattle.clk_drain.specs.Closing.{IsDrainedTo}

-- a device with one queue, before its first pull
abbrev pub unpulled : Progress
unpulled = record { tree = queue 0; log = [] }

-- the setup of a Queue of one packet, whose one sender has room for two
abbrev one_room : QueueSetup
one_room = setup_of TailDrop 1 ((0, 2) ∷ [])

-- The line of a Queue of one packet, which accepted the first packet of its sender and refused the second.
abbrev pub line : TableId → LineLists
line id =
    record {
      leaf = 0;
      tap = record { id = id; setup = one_room; keeps = true; taken = []; gathered = [] };
      closed =
          record {
            lists = record { id = id; setup = one_room; sender = 0; room = 2; next = 2; accepted = p0_0 ∷ []; refused = p0_1 ∷ []; evicted = [] };
            is_gathered = false;
          } ∷ [];
    }

-- the log of a drain with one pull, which gave this packet
abbrev pub gave : Packet → List Visit
gave p = asking 0 1 0 0 (Some p) ∷ []

-- A drain of the session over the line may emit `accepted`, with a tally that has it accepted and `refused` refused.
abbrev pub MayDrainTo : Packet → Packet → Type 0
MayDrainTo accepted refused = (id : TableId) → IsDrainedTo unpulled (line id ∷ []) 0 (gave accepted) (accepted ∷ []) (tally 0 (accepted ∷ []) (refused ∷ []) [] ∷ [])

-- A drain of the session over the line never emits `accepted`, with a tally that has it accepted and `refused` refused.
abbrev pub NeverDrainsTo : Packet → Packet → Type 0
NeverDrainsTo accepted refused = (id : TableId) → ¬ (IsDrainedTo unpulled (line id ∷ []) 0 (gave accepted) (accepted ∷ []) (tally 0 (accepted ∷ []) (refused ∷ []) [] ∷ []))
