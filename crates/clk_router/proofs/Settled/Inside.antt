-- The packets inside a queue, as the tree traces them.
use Rattle.std.proofs.Common.{◌≡◌, ℕ, ◌+◌, ◌≤◌, ◌==◌, Bool, true, false, if◌then◌else◌, List, [], ◌∷◌, ◌++◌, length, length-append, drop, map, filter, Option, Some, None, MatchOption, slice_get, refl, sym, ap, ◌∙◌, subst, arith, eq-eqb}
use Rattle.std.specs.List.{cons_option, AllByRecursion}
use Rattle.std.proofs.lemmas.Bool.{false≢true, eqb-true}
use Rattle.std.proofs.lemmas.Bool.Decides.{nat_tests}
use Rattle.std.proofs.lemmas.List.{drop_at}
use Rattle.clk_packet.specs.declared.packet.Packet.{Packet}
use Rattle.clk_packet.specs.Lists.{stands_in, AreRising}
use Rattle.clk_sched.specs.Tree.{Row, Tree, root, leaves, leaves_distinct}
use Rattle.clk_sched.specs.Results.{Traced, traced_emitted, traced_heads}
use Rattle.clk_ring.specs.QueueHistory.{held}
use Rattle.clk_sched.specs.FewHeads.{drrs_above, HoldsFewHeads}
use Rattle.clk_sched.specs.Conservation.{from_queue, ConservesPackets, MakesNothing}
use Rattle.clk_sched.proofs.Callers.Traced.{CameOf, emitted-traced}
use Rattle.clk_tree.specs.declared.plan.parts.SenderSpec.{SenderSpec}
use Rattle.clk_tree.specs.PlanParts.{number_of}
use Rattle.clk_router.specs.Events.{Room, Setup, Event, sends_to, events_at, log_of, history, CanHappen}
use Rattle.clk_router.specs.InsideQueues.{is_of_queue, given_of, emitted_of, heads_of, inside_of}
use Rattle.clk_router.specs.inside.Closable.{IsClosable, is_at}
use Rattle.clk_router.specs.inside.Parts.{IsWhole}
use Rattle.clk_router.proofs.Callers.Apart.{one-queue}
use Rattle.clk_router.proofs.Settled.OwnPackets.{SendsIn, none-from}
use Rattle.clk_router.proofs.Settled.QueuePackets.{history-in_order}
use Rattle.clk_router.proofs.Settled.Accounted.{has-history, its-run, leaf-gave, came, stands-there}
use Rattle.clk_sched.proofs.Callers.Lists.{is_number}

-- The packets of a queue's senders came from that queue.
pub of-queue : (senders : List SenderSpec) (row : Row) (q : ℕ) → AreRising (map number_of senders) → (ts : List Traced) → AllByRecursion (CameOf (SendsIn senders row)) ts
    → filter (λ (p : Packet). sends_to senders p.sender q) (map (λ (t : Traced). t.0) ts) ≡ from_queue q ts
of-queue senders row q rising [] h = refl
of-queue senders row q rising (t ∷ ts) h = by_origin t.1 t.0 h.0 (of-queue senders row q rising ts h.1)
  where
    some : List Packet
    some = filter (λ (p : Packet). sends_to senders p.sender q) (map (λ (t : Traced). t.0) ts)

    more : List Packet
    more = from_queue q ts

    by_tests : (a b : Bool) (k : ℕ) (p : Packet) → sends_to senders p.sender q ≡ a → (k == q) ≡ b → sends_to senders p.sender k ≡ true → some ≡ more → (if a then p ∷ some else some) ≡ cons_option (if b then Some p else None) more
    by_tests true true k p e f sends rest = ap (λ l. p ∷ l) rest
    by_tests false false k p e f sends rest = rest
    by_tests true false k p e f sends rest = absurd (false≢true (sym f ∙ eq-eqb k q (one-queue senders p.sender k q rising sends e)))
    by_tests false true k p e f sends rest = absurd (false≢true (sym e ∙ subst (λ n. sends_to senders p.sender n ≡ true) (eqb-true k q f) sends))

    by_origin : (o : Option ℕ) (p : Packet) → MatchOption o ⊥ (λ k. (stands_in k (leaves row) ≡ true) × (sends_to senders p.sender k ≡ true)) → some ≡ more
        → (if sends_to senders p.sender q then p ∷ some else some) ≡ cons_option (if is_number q o then Some p else None) more
    by_origin None p over rest = absurd over
    by_origin (Some k) p over rest = by_tests (sends_to senders p.sender q) (k == q) k p refl refl over.1 rest

module _ (conserves : (tree : Tree) → leaves_distinct tree ≡ true → ConservesPackets tree) (makes : (tree : Tree) → MakesNothing tree) (setup : Setup) (whole : IsWhole setup) (closable : IsClosable setup) (events : List Event) (can : CanHappen setup events) where
  -- What a device emitted of a queue is what the tree traces to that queue.
  pub emitted-of : (d q : ℕ) (tree : Tree) → slice_get setup.trees d ≡ Some tree → emitted_of setup d q events ≡ from_queue q (traced_emitted tree (log_of (events_at setup d events)))
  emitted-of d q tree at =
      let log = log_of (events_at setup d events) in
      ap (filter (is_of_queue setup q)) (emitted-traced tree log) ∙ of-queue setup.senders (root tree) q closable.apart.senders (traced_emitted tree log) (came conserves makes setup whole closable events can d tree at).0

  -- What a queue gave is what the device emitted of it, and then its heads.
  given-all : (q : ℕ) (room : Room) (tree : Tree) → slice_get setup.queues q ≡ Some room → slice_get setup.trees room.device ≡ Some tree
      → given_of setup q events ≡ emitted_of setup room.device q events ++ from_queue q (traced_heads tree (log_of (events_at setup room.device events)))
  given-all q room tree is at =
      let log = log_of (events_at setup room.device events) in
      let here : (room.device == room.device) ≡ true = grind (arith, nat_tests) in
      let stands = stands-there conserves makes setup whole closable events can q room tree is at in
      leaf-gave conserves makes setup whole closable events can room.device tree at q room is here
      ∙ conserves tree (closable.queues room.device tree at).distinct log (its-run conserves makes setup whole closable events can room.device tree at) q stands
      ∙ ap (λ l. l ++ from_queue q (traced_heads tree log)) (sym (emitted-of room.device q tree at))

  -- The heads of a queue are what the tree holds of it.
  pub heads-are : (q : ℕ) (room : Room) (tree : Tree) → slice_get setup.queues q ≡ Some room → slice_get setup.trees room.device ≡ Some tree
      → heads_of setup room.device q events ≡ from_queue q (traced_heads tree (log_of (events_at setup room.device events)))
  heads-are q room tree is at =
      let heads = from_queue q (traced_heads tree (log_of (events_at setup room.device events))) in
      ap (drop (length (emitted_of setup room.device q events))) (given-all q room tree is at) ∙ drop_at (emitted_of setup room.device q events) heads _ refl

  pub given-is : (q : ℕ) (room : Room) (tree : Tree) → slice_get setup.queues q ≡ Some room → slice_get setup.trees room.device ≡ Some tree → given_of setup q events ≡ emitted_of setup room.device q events ++ heads_of setup room.device q events
  given-is q room tree is at = given-all q room tree is at ∙ ap (λ l. emitted_of setup room.device q events ++ l) (sym (heads-are q room tree is at))

  -- So no more packets of a queue are inside than it may hold and DRRScheds stand above it.
  pub inside-fits : ((tree : Tree) → leaves_distinct tree ≡ true → HoldsFewHeads tree) → (q : ℕ) (room : Room) (tree : Tree) → slice_get setup.queues q ≡ Some room → slice_get setup.trees room.device ≡ Some tree → length (inside_of setup room.device q events) ≤ room.capacity + drrs_above q (root tree)
  inside-fits few q room tree is at =
      let heads = ap length (heads-are q room tree is at) in
      let bound = few tree (closable.queues room.device tree at).distinct (log_of (events_at setup room.device events)) q in
      let fits = (history-in_order room.kind room.capacity (history setup q events) (has-history conserves makes setup whole closable events can q room is)).fits in
      let both = length-append (heads_of setup room.device q events) (held (history setup q events)) in
      omega (arith, heads, bound, fits, both)

  -- No other device emitted a packet of the queue.
  pub none-emitted : (d q : ℕ) (room : Room) (tree : Tree) → slice_get setup.queues q ≡ Some room → (room.device == d) ≡ false → slice_get setup.trees d ≡ Some tree → emitted_of setup d q events ≡ []
  none-emitted d q room tree is other at =
      let log = log_of (events_at setup d events) in
      let not_there : stands_in q (leaves (root tree)) ≡ false = (closable.queues d tree at).leaves_are q ∙ ap (is_at d) is ∙ other in
      emitted-of d q tree at ∙ none-from setup.senders (root tree) q not_there (traced_emitted tree log) (came conserves makes setup whole closable events can d tree at).0
