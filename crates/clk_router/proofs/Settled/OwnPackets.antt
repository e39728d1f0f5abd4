-- Each sender sends to one queue, and so the packets of a sender came from its own queue.
use Rattle.std.proofs.Common.{◌≡◌, ℕ, ◌==◌, ◌&&◌, true, false, List, [], ◌∷◌, map, refl, ap, ◌∙◌, arith, rules}
use Rattle.std.specs.List.{AllByRecursion, list_any}
use Rattle.std.proofs.lemmas.Bool.{false≢true, or_right}
use Rattle.std.proofs.lemmas.Bool.Decides.{nat_tests}
use Rattle.clk_packet.specs.declared.packet.Packet.{Packet}
use Rattle.clk_packet.specs.Lists.{of_sender, stands_in, AreRising}
use Rattle.clk_sched.specs.declared.visit.Visit.{Visit}
use Rattle.clk_sched.specs.Tree.{Row, Tree, leaves}
use Rattle.clk_sched.specs.Results.{Traced, leaf_packets}
use Rattle.clk_sched.specs.Conservation.{from_queue, CameFrom}
use Rattle.clk_sched.proofs.Callers.Lists.{of-all}
use Rattle.clk_sched.proofs.Callers.Traced.{CameOf, from-own_queue}
use Rattle.clk_tree.specs.declared.plan.parts.SenderSpec.{SenderSpec}
use Rattle.clk_tree.specs.PlanParts.{number_of}
use Rattle.clk_router.specs.Events.{sends_to}
use Rattle.clk_router.proofs.Callers.Apart.{one-queue}

-- each sender sends to its queue
sends-wider : (senders : List SenderSpec) (x : SenderSpec) (some : List SenderSpec) → AllByRecursion (λ (s : SenderSpec). sends_to senders s.number s.queue ≡ true) some
    → AllByRecursion (λ (s : SenderSpec). sends_to (x ∷ senders) s.number s.queue ≡ true) some
sends-wider senders x [] h = tt
sends-wider senders x (s ∷ some) h = (or_right ((x.number == s.number) && (x.queue == s.queue)) (sends_to senders s.number s.queue) h.0, sends-wider senders x some h.1)

pub all-send : (senders : List SenderSpec) → AllByRecursion (λ (s : SenderSpec). sends_to senders s.number s.queue ≡ true) senders
all-send [] = tt
all-send (x ∷ senders) = (
  (let n : (x.number == x.number) ≡ true = grind (arith, nat_tests) in let q : (x.queue == x.queue) ≡ true = grind (arith, nat_tests) in rw (n, q) refl),
  sends-wider senders x senders (all-send senders),
)

-- a sender of the setup sends to a queue, and has what all senders have
pub its-queue : (P : SenderSpec → Type 0) (senders : List SenderSpec) (n : ℕ) → AllByRecursion P senders → list_any (λ m. m == n) (map number_of senders) ≡ true → (x : SenderSpec) × (sends_to senders n x.queue ≡ true) × P x
its-queue P [] n h e = absurd (false≢true e)
its-queue P (x ∷ senders) n h e = search (rules, (its-queue P senders n h.1))

-- a sender sends to a queue that stands in a row
abbrev pub SendsIn : List SenderSpec → Row → ℕ → ℕ → Type 0
SendsIn senders row s k = (stands_in k (leaves row) ≡ true) × (sends_to senders s k ≡ true)

pub all-came : (senders : List SenderSpec) (tree : Tree) (log : List Visit) (row : Row) (ts : List Traced)
    → ((k : ℕ) → stands_in k (leaves row) ≡ true → AllByRecursion (λ (p : Packet). sends_to senders p.sender k ≡ true) (leaf_packets tree k log))
    → AllByRecursion (CameFrom tree log row) ts → AllByRecursion (CameOf (SendsIn senders row)) ts
all-came senders tree log row [] all h = tt
all-came senders tree log row (t ∷ ts) all h = search (rules, of-all, (all-came senders tree log row ts all h.1))

-- The packets of a sender came from its own queue.
pub of-own_queue : (senders : List SenderSpec) (row : Row) (s q : ℕ) → AreRising (map number_of senders) → sends_to senders s q ≡ true → (ts : List Traced) → AllByRecursion (CameOf (SendsIn senders row)) ts
    → of_sender s (map (λ (t : Traced). t.0) ts) ≡ of_sender s (from_queue q ts)
of-own_queue senders row s q rising sends = from-own_queue (SendsIn senders row) s q (λ k its. one-queue senders s k q rising its.1 sends)

-- No packet came from a queue that does not stand in the tree.
pub none-from : (senders : List SenderSpec) (row : Row) (q : ℕ) → stands_in q (leaves row) ≡ false → (ts : List Traced) → AllByRecursion (CameOf (SendsIn senders row)) ts → from_queue q ts ≡ []
none-from senders row q other [] h = refl
none-from senders row q other (t ∷ ts) h = search (rules, (none-from senders row q other ts h.1))

-- So a tree in which the queue of a sender does not stand has no packet of the sender.
pub none-of-other : (senders : List SenderSpec) (row : Row) (s q : ℕ) → AreRising (map number_of senders) → sends_to senders s q ≡ true → stands_in q (leaves row) ≡ false → (ts : List Traced) → AllByRecursion (CameOf (SendsIn senders row)) ts
    → of_sender s (map (λ (t : Traced). t.0) ts) ≡ []
none-of-other senders row s q rising sends other ts h = of-own_queue senders row s q rising sends ts h ∙ ap (of_sender s) (none-from senders row q other ts h)
