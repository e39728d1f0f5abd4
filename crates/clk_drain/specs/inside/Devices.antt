-- What a run opens over a plan.
use Rattle.std.specs.Prelude.{◌≡◌, ℕ, List, [], ◌∷◌, map, suc, Vec}
use Rattle.std.specs.declared.alloc.Global.{Global}
use Rattle.clk_packet.specs.declared.packet.Packet.{Packet}
use Rattle.clk_packet.specs.Lists.{stands_in}
use Rattle.clk_ruled.specs.Queue.{SeatLists}
use Rattle.clk_sched.specs.declared.session.keeps.Keeps.{Keeps}
use Rattle.clk_sched.specs.Tree.{root, leaves}
use Rattle.clk_tree.specs.Plan.{Planned}
use Rattle.clk_tree.specs.PlanTree.{IsTreeOf}
use Rattle.clk_tree.specs.PlanParts.{queues_of, SharedQueue}
use Rattle.clk_drain.specs.declared.running.opening.LeafQueue.{LeafQueue}
use Rattle.clk_drain.specs.Opening.{queues_at}
use Rattle.clk_drain.specs.inside.Threads.{EndLists}
use Rattle.clk_drain.specs.inside.Opening.{AreOpenAs}

-- A device of a plan was opened: its session is before its first pull, and it has these queues.
pub record IsOpenOf (plan : List Planned) (traces : List (List Packet)) (device : ℕ) (queues : List LeafQueue) (seats : List (Vec SeatLists Global)) (ends : EndLists) : Type 0 where
  pub tree : IsTreeOf plan device ends.session.tree
  pub none : ends.session.log ≡ []
  pub leaves_are : (q : ℕ) → stands_in q (leaves (root ends.session.tree)) ≡ stands_in q (map (λ (s : SharedQueue). s.leaf) (queues_at device 0 (queues_of plan)))
  pub opened : AreOpenAs traces (queues_at device 0 (queues_of plan)) queues ends.taps seats

-- Each device of a plan was opened, from a number on and below another, in order.
abbrev pub AreOpenFrom : List Planned → List (List Packet) → ℕ → ℕ → List (Vec LeafQueue Global) → List (Vec (Vec SeatLists Global) Global) → List EndLists → Type 0
AreOpenFrom plan traces device end [] [] [] = device ≡ end
AreOpenFrom plan traces device end (q ∷ queues) (s ∷ seats) (e ∷ ends) = IsOpenOf plan traces device q.items s.items e × AreOpenFrom plan traces (suc device) end queues seats ends
AreOpenFrom plan traces device end queues seats ends = ⊥

-- The session of a device keeps this.
abbrev pub KeepsSo : Keeps → EndLists → Type 0
KeepsSo keeps ends = ends.keeps ≡ keeps
