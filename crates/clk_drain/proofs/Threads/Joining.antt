-- What the threads of a run gave, joined by device, can be closed.
use Rattle.std.proofs.Common.{◌≡◌, ℕ, ◌*◌, ◌≤◌, true, List, [], ◌∷◌, ◌++◌, map, refl, sym, ap, ◌∙◌, subst, Vec, rules}
use Rattle.std.specs.declared.alloc.Global.{Global}
use Rattle.std.specs.Prelude.{⊤}
use Rattle.std.specs.List.{flat_map, AllByRecursion, AllZip}
use Rattle.clk_packet.specs.declared.packet.Packet.{Packet}
use Rattle.clk_packet.specs.Trace.{sent_by, packets_in}
use Rattle.clk_packet.specs.Lists.{are_distinct}
use Rattle.clk_ruled.specs.declared.view.QueueSetup.{QueueSetup}
use Rattle.clk_ruled.specs.Queue.{OpenedQueue, SeatLists, TapLists, ClosedLists, queue_of, empty_seat}
use Rattle.clk_ruled.specs.Settle.{AreOfTap, AreOpenedTogether, lists_of}
use Rattle.clk_sched.specs.declared.session.keeps.Keeps.{Keeps}
use Rattle.clk_sched.specs.declared.limits.TheConstants.{MAX_LEFT}
use Rattle.clk_sched.specs.Log.{pulls, moment_of}
use Rattle.clk_sched.specs.Session.{counted_moment}
use Rattle.clk_drain.specs.declared.running.opening.LeafQueue.{LeafQueue}
use Rattle.clk_drain.specs.Line.{LineLists, seats_of, seats_in, senders_at, taking_all, pulling_all, AreLinesOf}
use Rattle.clk_tree.specs.PlanParts.{SharedQueue}
use Rattle.clk_drain.specs.Closing.{queue_of_line, HasSent}
use Rattle.clk_drain.specs.inside.Parts.{taken_at}
use Rattle.clk_drain.specs.inside.Threads.{Terms, HasSentAll, HaveSentAll, EndLists, Feed, IsPulled, steps}
use Rattle.clk_drain.specs.inside.Handed.{lines_from, feed_from, HasDeviceSent, HavePulled, joined_lines, AreJoinable, joined_feeds, AreAllJoinable, IsReadyToClose, AreApartDevices}
use Rattle.clk_drain.specs.inside.Devices.{KeepsSo}
use Rattle.clk_drain.specs.inside.Opening.{rooms_for, setup_for, IsOpenAs, AreOpenAs}
use Rattle.clk_drain.proofs.Plans.Apart.{apart-parts}
use Rattle.clk_drain.proofs.Drains.Settling.{senders-same}
use Rattle.clk_drain.proofs.Leaves.Still.{same-lines}
use Rattle.clk_gate.proofs.Callers.TraceSums.{within-trace}
use Rattle.clk_drain.proofs.Plans.TraceSums.{accepted-over-within}
use Rattle.clk_packet.proofs.Callers.Lists.{all-append}

-- Closed seats have the senders and the rooms of the seats that they were, and sent all that is sent.
abbrev room_of : SeatLists → ℕ × ℕ
room_of l = (l.sender, l.room)

same-rooms : (terms : Terms) (seats : List SeatLists) (closed : List ClosedLists) → AllZip (HasSentAll terms) seats closed → map room_of (lists_of closed) ≡ map room_of seats
same-rooms terms [] o h = search rules
same-rooms terms (s ∷ seats) [] h = absurd h
same-rooms terms (s ∷ seats) (c ∷ closed) h = search (rules, (same-rooms terms seats closed h.1))

same-senders : (terms : Terms) (seats : List SeatLists) (closed : List ClosedLists) → AllZip (HasSentAll terms) seats closed → senders_at (lists_of closed) ≡ senders_at seats
same-senders terms [] o h = search rules
same-senders terms (s ∷ seats) [] h = absurd h
same-senders terms (s ∷ seats) (c ∷ closed) h = λ i. h.0.closed.0.2 i ∷ same-senders terms seats closed h.1 i

each-sent : (terms : Terms) (seats : List SeatLists) (closed : List ClosedLists) → AllZip (HasSentAll terms) seats closed → AllByRecursion (HasSent (sent_by terms.traces)) (lists_of closed)
each-sent terms [] o h = search rules
each-sent terms (s ∷ seats) [] h = absurd h
each-sent terms (s ∷ seats) (c ∷ closed) h = search (rules, (each-sent terms seats closed h.1))

-- the seat was opened with the tap
abbrev IsBeside : TapLists → SeatLists → Type 0
IsBeside tap s = (s.id ≡ tap.id) × (s.setup ≡ tap.setup)

each-of-tap : (terms : Terms) (tap : TapLists) (seats : List SeatLists) (closed : List ClosedLists) → AllByRecursion (IsBeside tap) seats → AllZip (HasSentAll terms) seats closed → AreOfTap tap closed
each-of-tap terms tap [] o own h = search rules
each-of-tap terms tap (s ∷ seats) [] own h = absurd h
each-of-tap terms tap (s ∷ seats) (c ∷ closed) own h = search (rules, (each-of-tap terms tap seats closed own.1 h.1))

-- Seats as they are opened.
opened-rooms : (queue : OpenedQueue) (setup : QueueSetup) (rooms : List (ℕ × ℕ)) → map room_of (map (empty_seat queue.id setup) rooms) ≡ rooms
opened-rooms queue setup [] = refl
opened-rooms queue setup (r ∷ rooms) = ap (λ rest. r ∷ rest) (opened-rooms queue setup rooms)

opened-senders : (queue : OpenedQueue) (setup : QueueSetup) (traces : List (List Packet)) (senders : List ℕ) → senders_at (map (empty_seat queue.id setup) (rooms_for traces senders)) ≡ senders
opened-senders queue setup traces [] = refl
opened-senders queue setup traces (s ∷ senders) = ap (λ rest. s ∷ rest) (opened-senders queue setup traces senders)

opened-beside : (queue : OpenedQueue) (setup : QueueSetup) (rooms : List (ℕ × ℕ)) (tap : TapLists) → queue.id ≡ tap.id → setup ≡ tap.setup → AllByRecursion (IsBeside tap) (map (empty_seat queue.id setup) rooms)
opened-beside queue setup [] tap own with_setup = tt
opened-beside queue setup (r ∷ rooms) tap own with_setup = ((own, with_setup), opened-beside queue setup rooms tap own with_setup)

-- A queue's line, once its seats are closed, is opened together, stands for the queue, and its seats sent all that is sent.
record IsJoined (terms : Terms) (q : SharedQueue) (queue : OpenedQueue) (l : LineLists) : Type 0 where
  together : AreOpenedTogether queue l.tap l.closed
  queue_is : queue_of_line l ≡ q
  sent : AllByRecursion (HasSent (sent_by terms.traces)) (seats_of l)

line-joined : (terms : Terms) (q : SharedQueue) (at : LeafQueue) (t : TapLists) (seats : List SeatLists) (more : List Packet) (closed : List ClosedLists) → IsOpenAs terms.traces q at t seats → AllZip (HasSentAll terms) seats closed
    → IsJoined terms q at.queue (record { leaf = at.leaf; tap = taking_all t more; closed = closed })
line-joined terms q at t seats more closed opened h =
    let setup : QueueSetup = setup_for terms.traces q in
    let own : t.id ≡ at.queue.id = ap (λ (x : TapLists). x.id) opened.1.2 in
    let with_setup : t.setup ≡ setup = ap (λ (x : TapLists). x.setup) opened.1.2 in
    let senders : senders_at (lists_of closed) ≡ q.senders = search (rules, same-senders, opened-senders) in record {
      together = (
        opened.1.0 ∙ (λ i. queue_of (sym own i) (sym with_setup i)),
        record {
          senders = search (rules, same-rooms, opened-rooms);
          each = each-of-tap terms (taking_all t more) seats closed (subst (AllByRecursion (IsBeside (taking_all t more))) (sym opened.1.1) (opened-beside at.queue setup setup.rooms (taking_all t more) (sym own) (sym with_setup))) h;
        },
      );
      queue_is = search rules;
      sent = each-sent terms seats closed h;
    }

-- A device's queues can be joined with these taps and seats, stand for the queues of its plan, and their seats sent all that is sent.
pub record AreJoined (terms : Terms) (shared : List SharedQueue) (queues : List LeafQueue) (taps : List TapLists) (closed : List (Vec ClosedLists Global)) (lines : List LineLists) : Type 0 where
  pub joinable : AreJoinable queues taps closed
  pub queues_are : map queue_of_line (joined_lines queues taps closed) ≡ shared
  pub sent : AllByRecursion (HasSent (sent_by terms.traces)) (seats_in (joined_lines queues taps closed))
  -- joining changes no leaf, and nothing that was taken
  pub taken : map taken_at (joined_lines queues taps closed) ≡ map taken_at lines

abbrev pub taps_of : List LineLists → List TapLists
taps_of lines = map (λ (l : LineLists). l.tap) lines

pub device-joined : (terms : Terms) (gave : ℕ → List Packet) (shared : List SharedQueue) (queues : List LeafQueue) (taps : List TapLists) (seats : List (Vec SeatLists Global)) (closed : List (Vec ClosedLists Global))
    → AreOpenAs terms.traces shared queues taps seats → AllZip (HaveSentAll terms) seats closed → AreJoined terms shared queues (taps_of (pulling_all gave (lines_from queues taps))) closed (pulling_all gave (lines_from queues taps))
device-joined terms gave [] [] [] [] (c ∷ closed) are h = absurd h
device-joined terms gave shared queues taps seats [] are h = search rules
device-joined terms gave (q ∷ shared) (at ∷ queues) (t ∷ taps) (s ∷ seats) (c ∷ closed) are h = search (rules, (line-joined terms q at t s.items (gave at.leaf) c.items are.0 h.0), all-append, (device-joined terms gave shared queues taps seats closed are.1 h.1))
device-joined terms gave shared queues taps seats closed are h = absurd are

-- A device, joined after its pulls: it has the queues of its plan, and its seats sent all that is sent.
pub record IsJoinedFeed (terms : Terms) (shared : List SharedQueue) (e : EndLists) (f : Feed) : Type 0 where
  pub tree_is : f.session.tree ≡ e.session.tree
  pub keeps_are : f.keeps ≡ e.keeps
  pub queues_are : map queue_of_line f.lines ≡ shared
  pub own : AreLinesOf f.session f.lines
  pub sent : AllByRecursion (HasSent (sent_by terms.traces)) (seats_in f.lines)
  pub made : ℕ
  pub within : made ≤ terms.limit
  pub moments : map moment_of (pulls f.session.log) ≡ steps terms.step made
  pub counted : counted_moment f.session ≡ made * terms.step

pub feed-joined : (terms : Terms) (shared : List SharedQueue) (queues : List LeafQueue) (seats : List (Vec SeatLists Global)) (e : EndLists) (closed : List (Vec ClosedLists Global)) (f : Feed) → AreOpenAs terms.traces shared queues e.taps seats
    → AllZip (HaveSentAll terms) seats closed → IsPulled terms (feed_from queues e) f
    → AreJoinable queues (taps_of f.lines) closed × IsJoinedFeed terms shared e (record { session = f.session; keeps = f.keeps; lines = joined_lines queues (taps_of f.lines) closed })
feed-joined terms shared queues seats e closed f opened h pulled =
    let is = pulled.2 in
    let joined : AreJoined terms shared queues (taps_of f.lines) closed f.lines =
    subst (λ lines. AreJoined terms shared queues (taps_of lines) closed lines) (sym is.lines) (device-joined terms is.gave shared queues e.taps seats closed opened h) in search (rules, same-lines)

-- The queues of all devices were opened as their plan has them.
abbrev pub AreAllOpenAs : List (List Packet) → List (List SharedQueue) → List (Vec LeafQueue Global) → List (Vec (Vec SeatLists Global) Global) → List EndLists → Type 0
AreAllOpenAs traces [] [] [] [] = ⊤
AreAllOpenAs traces (shared ∷ all) (q ∷ queues) (s ∷ seats) (e ∷ ends) = AreOpenAs traces shared q.items e.taps s.items × AreAllOpenAs traces all queues seats ends
AreAllOpenAs traces all queues seats ends = ⊥

-- so for each device, in order
abbrev pub AreJoinedFeeds : Terms → List (List SharedQueue) → List EndLists → List Feed → Type 0
AreJoinedFeeds terms [] [] [] = ⊤
AreJoinedFeeds terms (shared ∷ all) (e ∷ ends) (f ∷ feeds) = IsJoinedFeed terms shared e f × AreJoinedFeeds terms all ends feeds
AreJoinedFeeds terms all ends feeds = ⊥

pub all-joined : (terms : Terms) (all : List (List SharedQueue)) (queues : List (Vec LeafQueue Global)) (seats : List (Vec (Vec SeatLists Global) Global)) (ends pulled : List EndLists) (closed : List (Vec (Vec ClosedLists Global) Global)) → AreAllOpenAs terms.traces all queues seats ends → AllZip (HasDeviceSent terms) seats closed
    → HavePulled terms ends pulled queues → AreAllJoinable queues pulled closed × AreJoinedFeeds terms all ends (joined_feeds queues pulled closed)
all-joined terms [] [] [] [] [] o opened h over = search rules
all-joined terms [] [] [] [] (p ∷ pulled) closed opened h over = absurd over
all-joined terms (shared ∷ all) (q ∷ queues) (s ∷ seats) (e ∷ ends) [] closed opened h over = absurd over
all-joined terms (shared ∷ all) (q ∷ queues) (s ∷ seats) (e ∷ ends) (p ∷ pulled) [] opened h over = absurd h
all-joined terms (shared ∷ all) (q ∷ queues) (s ∷ seats) (e ∷ ends) (p ∷ pulled) (c ∷ closed) opened h over = search (rules, (feed-joined terms shared q.items s.items e c.items over.0.0 opened.0 h.0 over.0.1), (all-joined terms all queues seats ends pulled closed opened.1 h.1 over.1))
all-joined terms all queues seats ends pulled closed opened h over = absurd opened

-- Joined devices can be closed, where no sender has two seats.
abbrev pub senders_over : List SharedQueue → List ℕ
senders_over shared = flat_map (λ (q : SharedQueue). q.senders) shared

feed-senders : (terms : Terms) (shared : List SharedQueue) (e : EndLists) (f : Feed) → IsJoinedFeed terms shared e f → senders_at (seats_in f.lines) ≡ senders_over shared
feed-senders terms shared e f h = search (rules, senders-same)

feed-ready : (terms : Terms) (shared : List SharedQueue) (e : EndLists) (f : Feed) → are_distinct (senders_over shared) ≡ true → packets_in terms.traces ≤ MAX_LEFT → IsJoinedFeed terms shared e f → IsReadyToClose terms f
feed-ready terms shared e f own most h = search (rules, (feed-senders terms shared e f h), (accepted-over-within terms.traces f.lines h.sent), within-trace)

pub all-ready : (terms : Terms) (all : List (List SharedQueue)) (ends : List EndLists) (feeds : List Feed) → are_distinct (flat_map senders_over all) ≡ true → packets_in terms.traces ≤ MAX_LEFT → AreJoinedFeeds terms all ends feeds → AllByRecursion (IsReadyToClose terms) feeds
all-ready terms [] [] [] own most h = tt
all-ready terms (shared ∷ all) (e ∷ ends) (f ∷ feeds) own most h =
    let both = apart-parts (senders_over shared) (flat_map senders_over all) own in
    (feed-ready terms shared e f both.0 most h.0, all-ready terms all ends feeds both.1 most h.1)
all-ready terms all ends feeds own most h = absurd h

feeds-senders : (terms : Terms) (all : List (List SharedQueue)) (ends : List EndLists) (feeds : List Feed) → AreJoinedFeeds terms all ends feeds → flat_map (λ (f : Feed). senders_at (seats_in f.lines)) feeds ≡ flat_map senders_over all
feeds-senders terms [] [] [] h = refl
feeds-senders terms (shared ∷ all) (e ∷ ends) (f ∷ feeds) h = λ i. feed-senders terms shared e f h.0 i ++ feeds-senders terms all ends feeds h.1 i
feeds-senders terms all ends feeds h = absurd h

pub all-apart : (terms : Terms) (all : List (List SharedQueue)) (ends : List EndLists) (feeds : List Feed) → are_distinct (flat_map senders_over all) ≡ true → AreJoinedFeeds terms all ends feeds → AreApartDevices feeds
all-apart terms all ends feeds own h = search (rules, feeds-senders)

-- The sessions of all joined devices keep what those of the opened ones keep.
pub joined-kept : (keeps : Keeps) (terms : Terms) (all : List (List SharedQueue)) (ends : List EndLists) (feeds : List Feed) → AllByRecursion (KeepsSo keeps) ends → AreJoinedFeeds terms all ends feeds → AllByRecursion (λ (f : Feed). f.keeps ≡ keeps) feeds
joined-kept keeps terms [] [] [] kept h = tt
joined-kept keeps terms (shared ∷ all) (e ∷ ends) (f ∷ feeds) kept h = (h.0.keeps_are ∙ kept.0, joined-kept keeps terms all ends feeds kept.1 h.1)
joined-kept keeps terms all ends feeds kept h = absurd h
