-- A drain of a device comes to its end before moments or pulls do: the closing bound is enough, and it is low.
use Rattle.std.proofs.Common.{◌≡◌, ℕ, suc, ◌+◌, ◌<◌, ◌≤◌, Bool, true, false, List, [], ◌∷◌, ◌++◌, length, map, reverse, max, fold, append-nil, append_assoc, length-append, Option, Some, None, MatchOption, slice_get, refl, sym, ap, ap₂, ◌∙◌, subst, arith}
use Rattle.std.specs.Bool.{⊤}
use Rattle.std.specs.List.{filter_map, flat_map, range_with_len}
use Rattle.std.proofs.lemmas.Bool.{false≢true}
use Rattle.std.proofs.lemmas.List.{append_cancel_left, map-append}
use Rattle.std.proofs.lemmas.List.Concat.{flat_map-append}
use Rattle.std.proofs.lemmas.List.Elements.{filter_map-append}
use Rattle.clk_packet.specs.declared.packet.Packet.{Packet}
use Rattle.clk_packet.specs.declared.packet.Kind.{Kind}
use Rattle.clk_packet.specs.Lists.{stands_in}
use Rattle.clk_ring.specs.QueueHistory.{QueueEvent, give, empty, held, IsInOrder, EachStands, IsQueueHistory, pull_event}
use Rattle.clk_sched.specs.declared.visit.Visit.{Visit}
use Rattle.clk_sched.specs.Bound.{closing_bound}
use Rattle.clk_sched.specs.Choice.{answers_of}
use Rattle.clk_sched.specs.Closing.{GivesOut, IsClosing, left_in, BoundIsEnough}
use Rattle.clk_sched.specs.Conservation.{ConservesCounts}
use Rattle.clk_sched.specs.Log.{pulls, moment_of, counted}
use Rattle.clk_sched.specs.Results.{emitted}
use Rattle.clk_sched.specs.Run.{IsRun}
use Rattle.clk_sched.specs.Session.{given_in, latest_moment}
use Rattle.clk_sched.specs.Tree.{Tree, root, leaves, leaves_distinct, queue_at, IsSound}
use Rattle.clk_router.specs.Course.{Course}
use Rattle.clk_router.specs.Drains.{DrainsEnd}
use Rattle.clk_router.specs.Events.{Room, Setup, Event, events_at, log_of, pull_in, moment_in, accepted_in, evicted_in, emitted_in, answers_in, at_queue, history, pulls_from, closing_pulls, RunsTree, CanHappen}
use Rattle.clk_router.specs.inside.Closable.{IsClosable, is_at}
use Rattle.clk_router.proofs.Callers.Apart.{alone, no-answers}
use Rattle.clk_router.proofs.Callers.Emitted.{its-given}
use Rattle.clk_router.proofs.Callers.Events.{latest-moment, events-pulls, log-pulls, turns-pulls, counted-pulls, pulls-add_none, pulls-given, pulls-history, pulled-events}
use Rattle.clk_router.proofs.Callers.Plans.{queue-stands}
use Rattle.clk_router.proofs.QueueCounts.{stands-first, stands-rest, total, is_accept, is_evict, is_give, total-append, history-counts}
use Rattle.clk_router.proofs.Settled.Dealt.{member-there}
use Rattle.clk_router.proofs.Settled.NoneLeft.{left-held}

-- what a queue holds before and after an answer
held-answered : (capacity : ℕ) (before : List QueueEvent) (got : Option Packet) → IsInOrder capacity before → IsInOrder capacity (before ++ pull_event got ∷ [])
    → length (held before) ≡ total is_give (pull_event got ∷ []) + length (held (before ++ pull_event got ∷ []))
held-answered capacity before got old new =
    let was = history-counts capacity before old in
    let now = history-counts capacity (before ++ pull_event got ∷ []) new in
    let accepts = total-append is_accept before (pull_event got ∷ []) in
    let evicts = total-append is_evict before (pull_event got ∷ []) in
    let gives = total-append is_give before (pull_event got ∷ []) in
    let none_accepted = no-accept got in
    let none_evicted = no-evict got in
    omega (arith, was, now, accepts, evicts, gives, none_accepted, none_evicted)
  where
    no-accept : (o : Option Packet) → total is_accept (pull_event o ∷ []) ≡ 0
    no-accept None = refl
    no-accept (Some p) = refl

    no-evict : (o : Option Packet) → total is_evict (pull_event o ∷ []) ≡ 0
    no-evict None = refl
    no-evict (Some p) = refl

-- a queue gives out what it holds
gives-out : (kind : Kind) (capacity : ℕ) (before : List QueueEvent) (answers : List (Option Packet)) → EachStands kind capacity before (map pull_event answers)
    → GivesOut (length (held before)) answers (length (held (before ++ map pull_event answers)))
gives-out kind capacity before [] h = ap (λ l. length (held l)) (sym (append-nil before))
gives-out kind capacity before (None ∷ answers) h =
    let one = held-answered capacity before None h.0 (stands-first kind capacity (before ++ empty ∷ []) (map pull_event answers) h.3) in
    let same : length (held (before ++ empty ∷ [])) ≡ length (held before) = omega (arith, one) in
    let rest = subst (λ l. GivesOut (length (held (before ++ empty ∷ []))) answers (length (held l))) (append_assoc before (empty ∷ []) (map pull_event answers)) (gives-out kind capacity (before ++ empty ∷ []) answers h.3) in
    (ap length h.1, subst (λ n. GivesOut n answers (length (held (before ++ empty ∷ map pull_event answers)))) same rest)
gives-out kind capacity before (Some p ∷ answers) h =
    let one = held-answered capacity before (Some p) h.0 (stands-first kind capacity (before ++ give p ∷ []) (map pull_event answers) h.3) in
    let fewer : length (held before) ≡ suc (length (held (before ++ give p ∷ []))) = omega (arith, one) in (
      length (held (before ++ give p ∷ [])),
      fewer,
      subst (λ l. GivesOut (length (held (before ++ give p ∷ []))) answers (length (held l))) (append_assoc before (give p ∷ []) (map pull_event answers)) (gives-out kind capacity (before ++ give p ∷ []) answers h.3),
    )

-- Closing pulls of a device that can happen after some events.
module _ (start : (tree : Tree) → IsRun tree []) (setup : Setup) (closable : IsClosable setup) (events : List Event) (can : CanHappen setup events) (d moment : ℕ) (tree : Tree) (at : slice_get setup.trees d ≡ Some tree) (more : List (List Visit))
    (goes_on : CanHappen setup (events ++ closing_pulls d moment (events_at setup d events) more)) where
  abbrev its : List Event
  its = events_at setup d events

  abbrev latest : ℕ
  latest = max (fold max 0 (filter_map moment_in its)) moment

  abbrev joined : List Visit
  joined = flat_map (λ pull. pull) more

  abbrev last : List Event
  last = pulls_from d (latest + 1) more

  its-after : events_at setup d (events ++ last) ≡ its ++ last
  its-after = events-pulls setup d events (latest + 1) more

  runs : RunsTree tree its
  runs = subst (λ o. MatchOption o ⊤ (λ t. RunsTree t its)) at (can.runs d)

  runs-on : RunsTree tree (its ++ last)
  runs-on = subst (RunsTree tree) its-after (subst (λ o. MatchOption o ⊤ (λ t. RunsTree t (events_at setup d (events ++ last)))) at (goes_on.runs d))

  log : log_of (its ++ last) ≡ log_of its ++ joined
  log = log-pulls its d (latest + 1) more

  turns : filter_map pull_in (its ++ last) ≡ filter_map pull_in its ++ more
  turns = turns-pulls its d (latest + 1) more

  moments : map moment_of more ≡ range_with_len (latest + 1) (length more)
  moments =
      append_cancel_left (counted 0 (filter_map moment_in its)) (map moment_of more) (range_with_len (latest + 1) (length more))
      (ap (λ l. l ++ map moment_of more) (sym runs.moments) ∙ sym (map-append moment_of (filter_map pull_in its) more) ∙ ap (map moment_of) (sym turns) ∙ runs-on.moments ∙ counted-pulls its d (latest + 1) more (omega arith))

  -- what each queue holds before, and after
  abbrev held-before : ℕ → ℕ
  held-before q = length (held (history setup q its))

  abbrev held-after : ℕ → ℕ
  held-after q = length (held (history setup q (its ++ last)))

  answered : (q : ℕ) → history setup q (its ++ last) ≡ history setup q its ++ map pull_event (answers_of tree q joined)
  answered q = flat_map-append (at_queue setup q) its last ∙ ap (λ l. history setup q its ++ l) (pulls-history setup q d moment (latest + 1) more ∙ pulled-events setup d tree q moment joined at)

  gives : (q : ℕ) → GivesOut (held-before q) (answers_of tree q joined) (held-after q)
  gives q = by_leaf (stands_in q (leaves (root tree))) refl
    where
      no-members : (answers : List (Option Packet)) → map pull_event answers ≡ [] → answers ≡ []
      no-members [] e = refl
      no-members (o ∷ answers) e = absurd (omega (arith, ap length e))

      by_room : (o : Option Room) → slice_get setup.queues q ≡ o → is_at d o ≡ true → MatchOption o ⊤ (λ (room : Room). IsQueueHistory room.kind room.capacity (history setup q (its ++ last))) → GivesOut (held-before q) (answers_of tree q joined) (held-after q)
      by_room None e here h = absurd (false≢true here)
      by_room (Some room) e here h =
          subst (λ l. GivesOut (held-before q) (answers_of tree q joined) (length (held l))) (sym (answered q))
          (gives-out room.kind room.capacity (history setup q its) (answers_of tree q joined)
          (stands-rest room.kind room.capacity [] (history setup q its) (map pull_event (answers_of tree q joined)) (subst (IsQueueHistory room.kind room.capacity) (answered q) h)))

      by_leaf : (b : Bool) → stands_in q (leaves (root tree)) ≡ b → GivesOut (held-before q) (answers_of tree q joined) (held-after q)
      by_leaf true e =
          by_room (slice_get setup.queues q) refl (sym ((closable.queues d tree at).leaves_are q) ∙ e)
          (subst (λ l. MatchOption (slice_get setup.queues q) ⊤ (λ (room : Room). IsQueueHistory room.kind room.capacity (history setup q l))) its-after ((alone setup closable.apart start d (events ++ last) goes_on).histories q))
      by_leaf false e =
          let never : (x input : ℕ) → queue_at tree x input ≡ Some q → ⊥ = λ x input is. false≢true (sym e ∙ queue-stands 0 0 1 (root tree) x input q is) in
          let none : map pull_event (answers_of tree q joined) ≡ [] = sym (pulled-events setup d tree q moment joined at) ∙ ap (λ o. answers_in o q joined) at ∙ no-answers (Some tree) q joined never in
          let same : held-before q ≡ held-after q = ap (λ l. length (held l)) (sym (answered q ∙ ap (λ l. history setup q its ++ l) none ∙ append-nil (history setup q its))) in
          subst (λ l. GivesOut (held-before q) l (held-after q)) (sym (no-members (answers_of tree q joined) none)) same

  closing : IsClosing tree (log_of its) latest held-before held-after more
  closing =
      record {
        run = subst (IsRun tree) log runs-on.run;
        pulls_are = ap pulls (sym log) ∙ runs-on.pull_by_pull ∙ turns ∙ ap (λ ps. ps ++ more) (sym runs.pull_by_pull);
        moments = moments;
        gives = gives;
      }

  -- what the device emitted then
  emitted-more : emitted (log_of (its ++ last)) ≡ emitted (log_of its) ++ given_in more
  emitted-more = its-given tree (its ++ last) runs-on ∙ filter_map-append emitted_in its last ∙ ap₂ (λ l m. l ++ m) (sym (its-given tree its runs)) (pulls-given d (latest + 1) more)

  -- while packets are left, these pulls are fewer than the closing bound
  module _ (counts : (tree : Tree) → leaves_distinct tree ≡ true → ConservesCounts tree) (enough : (tree : Tree) → IsSound (root tree) → leaves_distinct tree ≡ true → BoundIsEnough tree) where
    abbrev left : ℕ
    left = left_in tree (log_of its) held-before

    pub left-is : left + length (filter_map evicted_in its) + length (emitted (log_of its)) ≡ length (filter_map accepted_in its)
    left-is = left-held start counts setup closable events can d tree at runs.run

    pub fewer : length (filter_map evicted_in (events_at setup d (events ++ last))) + length (emitted (log_of (events_at setup d (events ++ last)))) < length (filter_map accepted_in (events_at setup d (events ++ last)))
        → length more < closing_bound tree left
    fewer some =
        let accepted_same : length (filter_map accepted_in (events_at setup d (events ++ last))) ≡ length (filter_map accepted_in its) = ap (λ l. length (filter_map accepted_in l)) its-after ∙ ap length (pulls-add_none accepted_in (λ k n visits. refl) its d (latest + 1) more) in
        let evicted_same : length (filter_map evicted_in (events_at setup d (events ++ last))) ≡ length (filter_map evicted_in its) = ap (λ l. length (filter_map evicted_in l)) its-after ∙ ap length (pulls-add_none evicted_in (λ k n visits. refl) its d (latest + 1) more) in
        let emitted_is : length (emitted (log_of (events_at setup d (events ++ last)))) ≡ length (emitted (log_of its)) + length (given_in more) = ap (λ l. length (emitted (log_of l))) its-after ∙ ap length emitted-more ∙ length-append (emitted (log_of its)) (given_in more) in
        let not_all : length (given_in more) < left = omega (arith, some, accepted_same, evicted_same, emitted_is, left-is) in
        let late : latest_moment (reverse (pulls (log_of its))) ≤ latest = (let its_latest = latest-moment tree its runs in omega (arith, its_latest)) in
        enough tree (closable.sound d tree at) (closable.queues d tree at).distinct (log_of its) latest held-before held-after more runs.run late closing not_all

    pub pulls-are : length (filter_map pull_in (events_at setup d (events ++ last))) ≡ length (filter_map pull_in its) + length more
    pulls-are = ap (λ l. length (filter_map pull_in l)) its-after ∙ ap length turns ∙ length-append (filter_map pull_in its) more

-- The law: drains of a router come to their ends.
pub drains-end : ((tree : Tree) → IsRun tree []) → ((tree : Tree) → leaves_distinct tree ≡ true → ConservesCounts tree) → ((tree : Tree) → IsSound (root tree) → leaves_distinct tree ≡ true → BoundIsEnough tree) → (c : Course) → IsClosable c.setup
    → CanHappen c.setup c.events → (device moment : ℕ) → DrainsEnd c device moment
drains-end start counts enough c closable can device moment close more goes_on some =
    let its = member-there c.setup.trees device close.there in
    let left = left-is start c.setup closable c.events can device moment its.0 its.1 more goes_on counts enough in
    let few = fewer start c.setup closable c.events can device moment its.0 its.1 more goes_on counts enough some in
    let low = closable.bound device its.0 its.1 (left_in its.0 (log_of (events_at c.setup device c.events)) (λ q. length (held (history c.setup q (events_at c.setup device c.events))))) (let most = close.left in omega (arith, left, most)) in
    let made = pulls-are start c.setup closable c.events can device moment its.0 its.1 more goes_on counts enough in
    let early = close.moments in
    let before = close.pulls in
    record {
      there = close.there;
      moments = omega (arith, few, low, early);
      pulls = omega (arith, few, low, made, before);
    }
