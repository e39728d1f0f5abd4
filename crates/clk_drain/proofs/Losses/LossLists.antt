-- Lists of what the queues of a plan did that agree with the counts of a fault 21.
use Rattle.std.proofs.Common.{◌≡◌, ℕ, zero, suc, ◌+◌, ◌-◌, ◌<◌, ◌≤◌, ◌==◌, inl, inr, ◌⊎◌, ⊎_elim, Bool, true, false, List, [], ◌∷◌, ◌++◌, length, map, sum_by, take, drop, Option, Some, None, MatchOption, slice_get, refl, sym, ap, ◌∙◌, subst, arith, if◌then◌else◌, rules, option_map}
use Rattle.std.proofs.lemmas.List.{map-append, length-take}
use Rattle.std.specs.List.{flat_map, range_with_len, AllByRecursion}
use Rattle.atomic_table.specs.Seated.{TableId}
use Rattle.clk_packet.specs.declared.packet.Packet.{Packet}
use Rattle.clk_packet.specs.declared.packet.Kind.{Kind}
use Rattle.clk_packet.specs.declared.packet.Kind.TheVariants.{TailDrop, FrontDrop}
use Rattle.clk_packet.specs.declared.fault.Fault.TheVariants.{Unsettled}
use Rattle.clk_packet.specs.Lists.{In, are_distinct}
use Rattle.clk_packet.specs.Trace.{sent_by}
use Rattle.clk_ruled.specs.declared.view.QueueSetup.{QueueSetup}
use Rattle.clk_ruled.specs.Account.{IsAccount}
use Rattle.clk_ruled.specs.Queue.{SeatLists, AreNumbered, IsSharedOut, setup_of}
use Rattle.clk_ruled.specs.Settle.{accepted_of, evicted_of, accepted_count, lost_count, HasLostBelow}
use Rattle.clk_tree.specs.Plan.{Planned}
use Rattle.clk_tree.specs.PlanTree.{device_count}
use Rattle.clk_tree.specs.PlanParts.{Queued, queues_of, SharedQueue, shared_at}
use Rattle.clk_drain.specs.Closing.{HasSent}
use Rattle.clk_drain.specs.Laws.{queues_in_order, HasOffered, IsUnsettledRun, LossesHaveLists}
use Rattle.clk_drain.specs.Line.{senders_at}
use Rattle.clk_drain.specs.Lost.{SeatedQueue, HasReached}
use Rattle.clk_drain.specs.Run.{HasLostEarly}
use Rattle.clk_drain.specs.Opening.{queues_at}
use Rattle.clk_drain.proofs.Losses.LossCounts.{queue_in, one-apart, sent_in_all, sent-sum, counts-tail, counts-front}
use Rattle.clk_drain.proofs.Losses.LossAccounts.{all_accepted, AreOwn, AreAllOut, numbered-take, dealt-at, accepted-all, tail-account, front-account}
use Rattle.clk_packet.proofs.Callers.Lists.{all-append}
use Rattle.clk_drain.proofs.Lists.{all-there, in-left, in-right}
use Rattle.clk_tree.proofs.Callers.SharedQueues.{numbered-at}

-- the seat of a sender, of whose packets these were accepted, refused and evicted
abbrev seat_with : TableId → QueueSetup → List Packet → ℕ → List Packet → List Packet → List Packet → SeatLists
seat_with id setup sent s accepted refused evicted =
    record { id = id; setup = setup; sender = s; room = length sent; next = length sent; accepted = accepted; refused = refused; evicted = evicted }

-- The first so many of all packets are accepted, seat by seat, and the others refused.
abbrev seats_up_to : TableId → QueueSetup → (ℕ → List Packet) → ℕ → List ℕ → List SeatLists
seats_up_to id setup sent n [] = []
seats_up_to id setup sent n (s ∷ senders) =
    seat_with id setup (sent s) s (take n (sent s)) (drop n (sent s)) [] ∷ seats_up_to id setup sent (n - length (sent s)) senders

-- All packets are accepted, and then evicted.
abbrev seats_out : TableId → QueueSetup → (ℕ → List Packet) → List ℕ → List SeatLists
seats_out id setup sent senders = map (λ s. seat_with id setup (sent s) s (sent s) [] (sent s)) senders

-- Where each sender's packets are numbered, what these seats did is what seats do.
module _ (id : TableId) (sent : ℕ → List Packet) (numbered : (s : ℕ) → AreNumbered s 0 (sent s)) where
  up-to-senders : (setup : QueueSetup) (n : ℕ) (senders : List ℕ) → senders_at (seats_up_to id setup sent n senders) ≡ senders
  up-to-senders setup n [] = refl
  up-to-senders setup n (s ∷ senders) = ap (λ rest. s ∷ rest) (up-to-senders setup (n - length (sent s)) senders)

  up-to-sent : (setup : QueueSetup) (n : ℕ) (senders : List ℕ) → AllByRecursion (HasSent sent) (seats_up_to id setup sent n senders)
  up-to-sent setup n [] = tt
  up-to-sent setup n (s ∷ senders) = ((refl, numbered s, dealt-at n (sent s)), up-to-sent setup (n - length (sent s)) senders)

  up-to-own : (setup : QueueSetup) (n : ℕ) (senders : List ℕ) → AreOwn (seats_up_to id setup sent n senders)
  up-to-own setup n [] = tt
  up-to-own setup n (s ∷ senders) = (numbered-take s 0 n (sent s) (numbered s), up-to-own setup (n - length (sent s)) senders)

  up-to-none : (setup : QueueSetup) (n : ℕ) (senders : List ℕ) → AllByRecursion (λ (l : SeatLists). l.evicted ≡ []) (seats_up_to id setup sent n senders)
  up-to-none setup n [] = tt
  up-to-none setup n (s ∷ senders) = (refl, up-to-none setup (n - length (sent s)) senders)

  up-to-kinds : (setup : QueueSetup) (n : ℕ) (senders : List ℕ) → AllByRecursion (λ (l : SeatLists). l.setup.kind ≡ setup.kind) (seats_up_to id setup sent n senders)
  up-to-kinds setup n [] = tt
  up-to-kinds setup n (s ∷ senders) = (refl, up-to-kinds setup (n - length (sent s)) senders)

  up-to-shared : (setup : QueueSetup) (n : ℕ) (senders : List ℕ) → setup.kind ≡ TailDrop → AllByRecursion IsSharedOut (seats_up_to id setup sent n senders)
  up-to-shared setup n [] tail = tt
  up-to-shared setup n (s ∷ senders) tail = (
    record { within = omega arith; shared = record { offered = sent s; count = refl; numbers = numbered s; dealt = dealt-at n (sent s) }; front_drop = λ front. absurd (cc) },
    up-to-shared setup (n - length (sent s)) senders tail,
  )

  up-to-count : (setup : QueueSetup) (n : ℕ) (senders : List ℕ) → n ≤ sent_in_all sent senders → accepted_count (seats_up_to id setup sent n senders) ≡ n
  up-to-count setup n [] within = omega (arith, within)
  up-to-count setup n (s ∷ senders) within =
      let first = length-take n (sent s) in
      let rest = up-to-count setup (n - length (sent s)) senders (omega (arith, within)) in omega (arith, first, rest)

  out-senders : (setup : QueueSetup) (senders : List ℕ) → senders_at (seats_out id setup sent senders) ≡ senders
  out-senders setup [] = refl
  out-senders setup (s ∷ senders) = ap (λ rest. s ∷ rest) (out-senders setup senders)

  out-sent : (setup : QueueSetup) (senders : List ℕ) → AllByRecursion (HasSent sent) (seats_out id setup sent senders)
  out-sent setup [] = tt
  out-sent setup (s ∷ senders) = ((refl, numbered s, accepted-all (sent s)), out-sent setup senders)

  out-own : (setup : QueueSetup) (senders : List ℕ) → AreOwn (seats_out id setup sent senders)
  out-own setup [] = tt
  out-own setup (s ∷ senders) = (numbered s, out-own setup senders)

  out-all : (setup : QueueSetup) (senders : List ℕ) → AreAllOut (seats_out id setup sent senders)
  out-all setup [] = tt
  out-all setup (s ∷ senders) = (refl, out-all setup senders)

  out-none : (setup : QueueSetup) (senders : List ℕ) → AllByRecursion (λ (l : SeatLists). l.refused ≡ []) (seats_out id setup sent senders)
  out-none setup [] = tt
  out-none setup (s ∷ senders) = (refl, out-none setup senders)

  out-kinds : (setup : QueueSetup) (senders : List ℕ) → AllByRecursion (λ (l : SeatLists). l.setup.kind ≡ setup.kind) (seats_out id setup sent senders)
  out-kinds setup [] = tt
  out-kinds setup (s ∷ senders) = (refl, out-kinds setup senders)

  out-shared : (setup : QueueSetup) (senders : List ℕ) → AllByRecursion IsSharedOut (seats_out id setup sent senders)
  out-shared setup [] = tt
  out-shared setup (s ∷ senders) = (
    record { within = omega arith; shared = record { offered = sent s; count = refl; numbers = numbered s; dealt = accepted-all (sent s) }; front_drop = λ _. refl },
    out-shared setup senders,
  )

  -- as many were lost as were accepted
  out-lost : (setup : QueueSetup) (senders : List ℕ) → lost_count (seats_out id setup sent senders) ≡ accepted_count (seats_out id setup sent senders)
  out-lost setup [] = refl
  out-lost setup (s ∷ senders) = let rest = out-lost setup senders in omega (arith, rest)

  abbrev setup_for : SharedQueue → QueueSetup
  setup_for q = setup_of q.kind q.capacity (map (λ s. (s, length (sent s))) q.senders)

  -- a queue that accepted all
  abbrev accepting_all : SharedQueue → SeatedQueue
  accepting_all q = record { queue = q; seats = seats_up_to id (setup_for q) sent (sent_in_all sent q.senders) q.senders }

  queues-all : (queues : List SharedQueue) → map queue_in (map accepting_all queues) ≡ queues
  queues-all [] = refl
  queues-all (q ∷ queues) = ap (λ rest. q ∷ rest) (queues-all queues)

  reached-all : (queues : List SharedQueue) → AllByRecursion HasReached (map accepting_all queues)
  reached-all [] = tt
  reached-all (q ∷ queues) = (
    (λ lost.
        let n = sent_in_all sent q.senders in
        let count = up-to-count (setup_for q) n q.senders (omega arith) in
        let sum = subst (λ ns. sent_in_all sent ns ≡ accepted_count (accepting_all q).seats + lost_count (accepting_all q).seats) (up-to-senders (setup_for q) n q.senders) (counts-tail sent (accepting_all q).seats (up-to-sent (setup_for q) n q.senders) (up-to-none (setup_for q) n q.senders)) in
        absurd (omega (arith, lost, count, sum))),
    reached-all queues,
  )

  -- What is said of a queue that lost packets early.
  record IsEarly (q : SharedQueue) (accepted : ℕ) : Type 0 where
    seats : List SeatLists
    senders : senders_at seats ≡ q.senders
    has_sent : AllByRecursion (HasSent sent) seats
    count : accepted_count seats ≡ accepted
    below : HasLostBelow q.kind q.capacity q.senders seats []

  -- A Queue accepted the first so many, and a FrontDropQueue evicted all.
  early : (q : SharedQueue) (accepted : ℕ) → are_distinct q.senders ≡ true → accepted < q.capacity → (q.kind ≡ TailDrop → accepted < sent_in_all sent q.senders) → (q.kind ≡ FrontDrop → (0 < accepted) × (accepted ≡ sent_in_all sent q.senders)) → IsEarly q accepted
  early q accepted apart below tail front = by_kind q.kind refl
    where
      by_kind : (kind : Kind) → q.kind ≡ kind → IsEarly q accepted
      by_kind TailDrop is =
          let seats : List SeatLists = seats_up_to id (setup_for q) sent accepted q.senders in
          let senders : senders_at seats ≡ q.senders = up-to-senders (setup_for q) accepted q.senders in
          let few = tail is in
          let count = up-to-count (setup_for q) accepted q.senders (omega (arith, few)) in
          let none = up-to-none (setup_for q) accepted q.senders in
          let sum = subst (λ ns. sent_in_all sent ns ≡ accepted_count seats + lost_count seats) senders (counts-tail sent seats (up-to-sent (setup_for q) accepted q.senders) none) in record {
            seats = seats;
            senders = senders;
            has_sent = up-to-sent (setup_for q) accepted q.senders;
            count = count;
            below = record {
              held = all_accepted seats;
              account = subst (λ ns. IsAccount q.kind q.capacity ns (accepted_of seats) (evicted_of seats) [] (all_accepted seats)) senders
                  (tail-account q.kind q.capacity seats (up-to-own (setup_for q) accepted q.senders) (subst (λ ns. are_distinct ns ≡ true) (sym senders) apart) none (omega (arith, count, below)));
              kinds = up-to-kinds (setup_for q) accepted q.senders;
              shared = up-to-shared (setup_for q) accepted q.senders is;
              lost = omega (arith, sum, count, few);
              below = omega (arith, count, below);
            };
          }
      by_kind FrontDrop is =
          let seats : List SeatLists = seats_out id (setup_for q) sent q.senders in
          let senders : senders_at seats ≡ q.senders = out-senders (setup_for q) q.senders in
          let all = front is in
          let some = all.0 in
          let whole = all.1 in
          let count = subst (λ ns. accepted_count seats ≡ sent_in_all sent ns) senders (counts-front sent seats (out-sent (setup_for q) q.senders) (out-none (setup_for q) q.senders)) in
          let lost = out-lost (setup_for q) q.senders in record {
            seats = seats;
            senders = senders;
            has_sent = out-sent (setup_for q) q.senders;
            count = omega (arith, count, whole);
            below = record {
              held = [];
              account = subst (λ ns. IsAccount q.kind q.capacity ns (accepted_of seats) (evicted_of seats) [] []) senders
                  (subst (λ k. IsAccount k q.capacity (senders_at seats) (accepted_of seats) (evicted_of seats) [] []) (sym is) (front-account q.capacity seats (out-own (setup_for q) q.senders) (subst (λ ns. are_distinct ns ≡ true) (sym senders) apart) (out-all (setup_for q) q.senders)));
              kinds = out-kinds (setup_for q) q.senders;
              shared = out-shared (setup_for q) q.senders;
              lost = omega (arith, lost, count, whole, some);
              below = omega (arith, count, whole, below);
            };
          }

  -- each sender of each queue that accepted all offered all
  offered-all : (traces : List (List Packet)) → sent_by traces ≡ sent → (queues : List SharedQueue) → AllByRecursion (HasOffered traces) (map accepting_all queues)
  offered-all traces is [] = tt
  offered-all traces is (q ∷ queues) = (
    record {
      senders = up-to-senders (setup_for q) (sent_in_all sent q.senders) q.senders;
      sent = subst (λ (f : ℕ → List Packet). AllByRecursion (HasSent f) (accepting_all q).seats) (sym is) (up-to-sent (setup_for q) (sent_in_all sent q.senders) q.senders);
    },
    offered-all traces is queues,
  )

-- A queue of a plan is among those of its device, and those of a device among all.
in-device : (d leaf n : ℕ) (queues : List Queued) (k : Queued) → slice_get queues n ≡ Some k → k.device ≡ d → In (shared_at (leaf + n) k) (queues_at d leaf queues)
in-device d leaf n [] k at is = absurd (cc)
in-device d leaf zero (q ∷ queues) k at is = search rules
in-device d leaf (suc n) (q ∷ queues) k at is = by_test (q.device == d) (subst (λ m. In (shared_at m k) (queues_at d (suc leaf) queues)) (omega arith) (in-device d (suc leaf) n queues k at is))
  where
    by_test : (b : Bool) → In (shared_at (leaf + suc n) k) (queues_at d (suc leaf) queues) → In (shared_at (leaf + suc n) k) (if b then shared_at leaf q ∷ queues_at d (suc leaf) queues else queues_at d (suc leaf) queues)
    by_test true later = inr later
    by_test false later = later

in-range : {X : Type 0} (f : ℕ → List X) (x : X) (first count d : ℕ) → In x (f d) → first ≤ d → d < first + count → In x (flat_map f (range_with_len first count))
in-range f x first zero d among from below = absurd (omega (arith, from, below))
in-range f x first (suc count) d among from below = ⊎_elim
    (λ (here : first ≡ d). in-left x (f first) (flat_map f (range_with_len (first + 1) count)) (subst (λ n. In x (f n)) (sym here) among))
    (λ (later : first < d). in-right x (f first) (flat_map f (range_with_len (first + 1) count)) (in-range f x (first + 1) count d among (omega (arith, later)) (omega (arith, below))))
    (equal-or-less first d from)
  where
    equal-or-less : (m n : ℕ) → m ≤ n → (m ≡ n) ⊎ (m < n)
    equal-or-less m n le = search (rules, arith)

-- A list is what stands before a member, the member, and what stands behind it.
record Split {X : Type 0} (x : X) (xs : List X) : Type 0 where
  earlier : List X
  later : List X
  is : xs ≡ earlier ++ x ∷ later

split : {X : Type 0} (x : X) (xs : List X) → In x xs → Split x xs
split x [] among = absurd among
split x (y ∷ xs) (inl here) = record { earlier = []; later = xs; is = ap (λ z. z ∷ xs) here }
split x (y ∷ xs) (inr later) = let rest = split x xs later in record { earlier = y ∷ rest.earlier; later = rest.later; is = ap (λ zs. y ∷ zs) rest.is }

-- Whatever counts fault 21 has, there are lists.
pub losses-have-lists : (plan : List Planned) (traces : List (List Packet)) → ((s : ℕ) → AreNumbered s 0 (sent_by traces s)) → are_distinct (flat_map (λ (k : Queued). k.senders) (queues_of plan)) ≡ true → AllByRecursion (λ (k : Queued). k.device < device_count plan) (queues_of plan) → LossesHaveLists plan traces
losses-have-lists plan traces numbered apart within leaf accepted capacity fault id =
    by_queue (slice_get (queues_of plan) leaf) refl (subst (λ o. MatchOption o ⊥ (λ q. HasLostEarly q (sum_by (λ s. length (sent_by traces s)) q.senders) accepted capacity)) (numbered-at plan leaf) fault.1)
  where
    by_queue : (o : Option Queued) → slice_get (queues_of plan) leaf ≡ o → MatchOption (option_map (shared_at leaf) o) ⊥ (λ q. HasLostEarly q (sum_by (λ s. length (sent_by traces s)) q.senders) accepted capacity) → IsUnsettledRun plan traces (Unsettled leaf accepted capacity)
    by_queue None at h = absurd h
    by_queue (Some k) at early_by_sum =
        let h = subst (λ n. HasLostEarly (shared_at leaf k) n accepted capacity) (sent-sum (sent_by traces) k.senders) early_by_sum in
        let queue : SharedQueue = shared_at leaf k in
        let among = in-range (λ device. queues_at device 0 (queues_of plan)) queue 0 (device_count plan) k.device (subst (λ n. In (shared_at n k) (queues_at k.device 0 (queues_of plan))) (omega arith) (in-device k.device 0 leaf (queues_of plan) k at refl)) (omega arith) (let lt = all-there (λ (q : Queued). q.device < device_count plan) (queues_of plan) leaf k within at in omega (arith, lt)) in
        let parts = split queue (queues_in_order plan) among in
        let lost = early id (sent_by traces) numbered queue accepted (one-apart (queues_of plan) leaf k apart at) (subst (λ n. accepted < n) h.capacity_is h.below) h.refused h.evicted in
        let first : SeatedQueue = record { queue = queue; seats = lost.seats } in
        let before = map (accepting_all id (sent_by traces) numbered) parts.earlier in
        let behind = map (accepting_all id (sent_by traces) numbered) parts.later in record {
          queues = before ++ first ∷ behind;
          are = map-append queue_in before (first ∷ behind) ∙ (λ i. queues-all id (sent_by traces) numbered parts.earlier i ++ queue ∷ queues-all id (sent_by traces) numbered parts.later i) ∙ sym parts.is;
          offered = all-append (HasOffered traces) before (first ∷ behind) (offered-all id (sent_by traces) numbered traces refl parts.earlier)
              (record { senders = lost.senders; sent = lost.has_sent }, offered-all id (sent_by traces) numbered traces refl parts.later);
          names = record {
            earlier = before;
            first = first;
            later = behind;
            all = refl;
            reached = reached-all id (sent_by traces) numbered parts.earlier;
            taken = [];
            below = lost.below;
            fault_is = λ i. Unsettled leaf (sym lost.count i) (h.capacity_is i);
          };
        }
