-- Packets with the queues that they came from, by their senders.
use Rattle.std.proofs.Common.{◌≡◌, ℕ, if◌then◌else◌, List, [], ◌∷◌, length, map, None, MatchOption, refl, ap, arith, eq-eqb, rules}
use Rattle.std.specs.List.{filter_map, flat_map, AllByRecursion}
use Rattle.std.proofs.lemmas.Bool.{eqb-true}
use Rattle.clk_packet.specs.declared.packet.Packet.{Packet}
use Rattle.clk_packet.specs.Lists.{of_sender}
use Rattle.clk_sched.specs.declared.visit.Visit.{Visit}
use Rattle.clk_sched.specs.Log.{visits_of}
use Rattle.clk_sched.specs.Tree.{Tree, root}
use Rattle.clk_sched.specs.Results.{Traced, traced, origin_in, traced_emitted, emitted}
use Rattle.clk_sched.specs.Conservation.{from_queue}

-- what was emitted is what was traced, without where it came from
emitted-visits : (tree : Tree) (log : List Visit) (visits : List Visit)
    → filter_map (λ (v : Visit). if v.passed then v.got else None) visits ≡ map (λ (t : Traced). t.0) (flat_map (λ (v : Visit). if v.passed then traced v.got (origin_in log 1 (root tree) 0 v.pull) else []) visits)
emitted-visits tree log [] = refl
emitted-visits tree log (v ∷ visits) = search (rules, (emitted-visits tree log visits))

pub emitted-traced : (tree : Tree) (log : List Visit) → emitted log ≡ map (λ (t : Traced). t.0) (traced_emitted tree log)
emitted-traced tree log = emitted-visits tree log (visits_of 0 log)

-- where no packets are traced, none came from a queue
pub none-traced : (ts : List Traced) (q : ℕ) → map (λ (t : Traced). t.0) ts ≡ [] → from_queue q ts ≡ []
none-traced [] q e = refl
none-traced (t ∷ ts) q e = absurd (omega (arith, ap length e))

-- a packet came from a queue to which its sender sends
abbrev pub CameOf : (ℕ → ℕ → Type 0) → Traced → Type 0
CameOf Sends t = MatchOption t.1 ⊥ (λ k. Sends t.0.sender k)

-- Where a sender sends to one queue, all of its packets came from that queue.
pub from-own_queue : (Sends : ℕ → ℕ → Type 0) (s q : ℕ) → ((k : ℕ) → Sends s k → k ≡ q) → (ts : List Traced) → AllByRecursion (CameOf Sends) ts → of_sender s (map (λ (t : Traced). t.0) ts) ≡ of_sender s (from_queue q ts)
from-own_queue Sends s q one [] h = refl
from-own_queue Sends s q one (t ∷ ts) h = search (rules, eq-eqb, eqb-true, (from-own_queue Sends s q one ts h.1))

-- What holds of all that send to a queue holds of the senders of all packets.
pub all-traced : (Sends : ℕ → ℕ → Type 0) (P : ℕ → Type 0) → ((k s : ℕ) → Sends s k → P s) → (ts : List Traced) → AllByRecursion (CameOf Sends) ts → AllByRecursion (λ (p : Packet). P p.sender) (map (λ (t : Traced). t.0) ts)
all-traced Sends P its [] h = tt
all-traced Sends P its (t ∷ ts) h = search (rules, (all-traced Sends P its ts h.1))
