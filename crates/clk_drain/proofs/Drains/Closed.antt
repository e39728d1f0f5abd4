-- What closing a session over its lines comes to.
use Rattle.std.proofs.Common.{◌≡◌, ℕ, ◌||◌, Bool, true, false, List, [], ◌∷◌, map, max, refl, sym, ◌∙◌, subst, rules}
use Rattle.std.specs.List.{AllByRecursion}
use Rattle.clk_packet.specs.declared.packet.Packet.{Packet}
use Rattle.clk_packet.specs.declared.tally.Tally.{Tally}
use Rattle.clk_sched.specs.Tree.{Tree, leaves_distinct}
use Rattle.clk_sched.specs.Conservation.{ConservesPackets, ConservesCounts, MakesNothing}
use Rattle.clk_sched.specs.Results.{emitted}
use Rattle.clk_sched.specs.declared.session.keeps.Keeps.{Keeps}
use Rattle.clk_sched.specs.Keeps.{keeps_visits, keeps_emitted}
use Rattle.clk_sched.specs.Session.{Progress, counted_moment}
use Rattle.clk_sched.specs.Drain.{GivesAll}
use Rattle.clk_drain.specs.Line.{LineLists, seats_in, HaveOwnSenders}
use Rattle.clk_drain.specs.Closing.{left_over, queue_of_line, device_of, tallies_in, AreInOrder, HasSent, IsDrainedTo}
use Rattle.clk_drain.specs.Outcome.{Device, IsSettledOutcome}
use Rattle.clk_drain.specs.Parts.{IsWithin}
use Rattle.clk_drain.specs.inside.Parts.{IsDrainOf, IsSettledLine}
use Rattle.clk_drain.proofs.Drains.Left.{IsLeft, left-is}
use Rattle.clk_drain.proofs.Leaves.Still.{still-accepted, still-evicted, still-seats, still-queues, still-tallies}
use Rattle.clk_drain.proofs.Drains.AllGiven.{all-given}
use Rattle.clk_drain.proofs.Drains.FromSenders.{emitted-of, emitted-own}
use Rattle.clk_drain.proofs.Drains.Settling.{some-sent, settled-outcome}

-- A session keeps its emitted packets, or visits from which they are known, if it dropped none.
pub emitted-told : (keeps : Keeps) (gone : ℕ) (out all : List Packet) → gone ≡ 0 → (keeps.packets ≡ true → out ≡ all) → (keeps_visits keeps ≡ true → gone ≡ 0 → out ≡ all) → keeps_emitted keeps ≡ true → out ≡ all
emitted-told keeps gone out all none kept told = by_packets keeps.packets refl
  where
    by_packets : (packets : Bool) → keeps.packets ≡ packets → (packets || keeps_visits keeps) ≡ true → out ≡ all
    by_packets true is e = kept is
    by_packets false is e = told e none

each-within : (lines : List LineLists) → AllByRecursion IsSettledLine lines → AllByRecursion IsWithin lines
each-within [] h = tt
each-within (l ∷ lines) h = (h.0.is.within, each-within lines h.1)

-- All is settled, and what is settled is what was asked for.
pub record IsClosed (session new : Progress) (lines gathered after : List LineLists) (moment left : ℕ) : Type 0 where
  pub own : HaveOwnSenders lines
  pub leaves_some : IsLeft session lines gathered left
  pub drained : IsDrainOf session gathered moment left new after
  pub distinct : leaves_distinct new.tree ≡ true
  pub settled : AllByRecursion IsSettledLine after

pub drained-over : (session new : Progress) (lines gathered after : List LineLists) (moment left : ℕ) (out : List Packet) (tallies : List Tally) → ((tree : Tree) → leaves_distinct tree ≡ true → ConservesPackets tree) → ((tree : Tree) → leaves_distinct tree ≡ true → ConservesCounts tree) → ((tree : Tree) → MakesNothing tree)
    → IsClosed session new lines gathered after moment left → AreInOrder (tallies_in after) tallies → out ≡ emitted new.log → IsDrainedTo session lines moment new.log out tallies
drained-over session new lines gathered after moment left out tallies conserves counts nothing h in_order comes_out =
    let still = h.drained.still ∙ h.leaves_some.gathers.still in
    let run = h.drained.gives.drained.run in
    let apart : HaveOwnSenders after = search (rules, still-seats) in
    let is_left : left ≡ left_over session after = search (rules, left-is, still-accepted, still-evicted) in
    let given = all-given session new after (max (counted_moment session) moment) h.drained.made h.distinct (counts new.tree h.distinct) (search rules) h.drained.own (each-within after h.settled) in
    let emits = emitted-of new after (conserves new.tree h.distinct) (nothing new.tree) run given.0 h.drained.own apart h.settled in
    let known = emitted-own new after (conserves new.tree h.distinct) (nothing new.tree) run given.0 h.drained.own apart h.settled in
    let some = some-sent after apart h.settled in
    let seats : seats_in after ≡ seats_in lines = still-seats lines after still in
    let settled : (packets : ℕ → List Packet) → AllByRecursion (HasSent packets) (seats_in lines) → IsSettledOutcome packets (record { tree = new.tree; queues = map queue_of_line after; log = new.log; emitted = emitted new.log } ∷ []) tallies =
    λ packets offered. settled-outcome packets new after tallies (emitted new.log) run refl h.drained.own apart (subst (AllByRecursion (HasSent packets)) (sym seats) offered) h.settled given.1 emits known in_order in
    let is_device : record { tree = new.tree; queues = map queue_of_line after; log = new.log; emitted = emitted new.log } ≡ device_of session lines new.log out =
    search (rules, still-queues) in record {
      sent = some.0;
      offered = subst (AllByRecursion (HasSent some.0)) seats some.1;
      told = search (rules, still-tallies);
      outcome = λ packets offered. subst (λ (d : Device). IsSettledOutcome packets (d ∷ []) tallies) is_device (settled packets offered);
      made = h.drained.made;
      goes_on = subst (λ (x : Progress × ℕ). GivesAll session x.0 (max (counted_moment session) moment) h.drained.made x.1) (λ i. (record { tree = h.drained.gives.drained.tree i; log = new.log }, left-is session lines gathered left h.leaves_some i)) h.drained.gives;
    }
