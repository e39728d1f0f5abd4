-- Each packet that a sender offered is out of the router or inside it, once.
use Rattle.std.proofs.Common.{◌≡◌, ℕ, ◌≤◌, ◌==◌, nat_lt, Bool, true, false, List, length, Some, slice_get, refl, sym, ap, ◌∙◌, arith}
use Rattle.std.specs.List.{range_with_len}
use Rattle.std.proofs.lemmas.Bool.Decides.{nat_tests}
use Rattle.std.proofs.lemmas.List.Elements.{filter-append}
use Rattle.clk_packet.specs.declared.packet.Packet.{Packet}
use Rattle.clk_packet.specs.Lists.{of_sender, stands_in}
use Rattle.clk_ring.specs.QueueHistory.{held}
use Rattle.clk_sched.specs.Tree.{Tree, root, leaves_distinct}
use Rattle.clk_sched.specs.Results.{traced_heads, heads}
use Rattle.clk_sched.specs.Conservation.{ConservesPackets, MakesNothing}
use Rattle.clk_tree.specs.declared.plan.parts.SenderSpec.{SenderSpec}
use Rattle.clk_router.specs.Events.{Room, Setup, Event, sends_to, events_at, log_of, history, CanHappen}
use Rattle.clk_packet.specs.Dealt.{packet_numbers}
use Rattle.clk_router.specs.Settled.{offered_of, out_of}
use Rattle.clk_router.specs.InsideQueues.{heads_of, inside_of, out_or_inside, IsOutOrInside, AreOutOrInside}
use Rattle.clk_router.specs.inside.Closable.{IsClosable}
use Rattle.clk_router.specs.inside.Parts.{IsWhole}
use Rattle.clk_router.proofs.Settled.OwnPackets.{of-own_queue}
use Rattle.clk_router.proofs.Settled.Accounted.{came, accounted}
use Rattle.clk_router.proofs.Settled.Inside.{heads-are}
use Rattle.clk_router.proofs.Settled.Numbers.{times, of_number, times-append, times-within, times-above, none-stands, some-stands, once-distinct, offered-times, out-times}
use Rattle.clk_router.proofs.Settled.NoneLeft.{for-queues}

module _ (conserves : (tree : Tree) → leaves_distinct tree ≡ true → ConservesPackets tree) (makes : (tree : Tree) → MakesNothing tree) (setup : Setup) (whole : IsWhole setup) (closable : IsClosable setup) (events : List Event) (can : CanHappen setup events) where
  -- the packets of a number that are out or inside are as many as were offered
  all-times : (s : SenderSpec) (room : Room) (tree : Tree) → sends_to setup.senders s.number s.queue ≡ true → slice_get setup.queues s.queue ≡ Some room → slice_get setup.trees room.device ≡ Some tree → (n : ℕ)
      → of_number n (out_or_inside setup events s room) ≡ times n (range_with_len 0 (length (offered_of events s.number)))
  all-times s room tree sends is at n =
      let log = log_of (events_at setup room.device events) in
      let held_in = traced_heads tree log in
      let its = heads_of setup room.device s.queue events in
      let holds = held (history setup s.queue events) in
      let a = accounted conserves makes setup whole closable events can s room tree sends is at in
      let same : of_sender s.number (heads_of setup room.device s.queue events) ≡ of_sender s.number (heads tree (log_of (events_at setup room.device events))) =
      ap (of_sender s.number) (heads-are conserves makes setup whole closable events can s.queue room tree is at)
      ∙ sym (of-own_queue setup.senders (root tree) s.number s.queue closable.apart.senders sends held_in (came conserves makes setup whole closable events can room.device tree at).1)
      in
      let heads_same = ap (of_number n) same in
      let back = out-times setup events s room tree a n in
      let whole_is = times-append n (out_of setup events s room) (of_sender s.number (inside_of setup room.device s.queue events)) in
      let inside = ap (of_number n) (filter-append (λ (p : Packet). p.sender == s.number) its holds) ∙ times-append n (of_sender s.number its) (of_sender s.number holds) in
      let all = offered-times setup events can s.number n in
      omega (arith, heads_same, back, whole_is, inside, all)

  out-or_inside : (s : SenderSpec) (room : Room) (tree : Tree) → sends_to setup.senders s.number s.queue ≡ true → slice_get setup.queues s.queue ≡ Some room → slice_get setup.trees room.device ≡ Some tree → IsOutOrInside setup events s room
  out-or_inside s room tree sends is at =
      record {
        once = once-distinct (packet_numbers (out_or_inside setup events s room)) (λ n. by_most n (nat_lt n (length (offered_of events s.number))) refl (all-times s room tree sends is at n));
        all = λ n. by_place n (nat_lt n (length (offered_of events s.number))) refl (all-times s room tree sends is at n);
      }
    where
      by_most : (n : ℕ) (b : Bool) → nat_lt n (length (offered_of events s.number)) ≡ b → of_number n (out_or_inside setup events s room) ≡ times n (range_with_len 0 (length (offered_of events s.number))) → of_number n (out_or_inside setup events s room) ≤ 1
      by_most n true e its = let one = times-within n 0 (length (offered_of events s.number)) (omega arith) (grind (arith, nat_tests, e)) in omega (arith, one, its)
      by_most n false e its = let none = times-above n 0 (length (offered_of events s.number)) (grind (arith, nat_tests, e)) in omega (arith, none, its)

      by_place : (n : ℕ) (b : Bool) → nat_lt n (length (offered_of events s.number)) ≡ b → of_number n (out_or_inside setup events s room) ≡ times n (range_with_len 0 (length (offered_of events s.number))) → stands_in n (packet_numbers (out_or_inside setup events s room)) ≡ b
      by_place n true e its = some-stands n (packet_numbers (out_or_inside setup events s room)) (let one = times-within n 0 (length (offered_of events s.number)) (omega arith) (grind (arith, nat_tests, e)) in omega (arith, one, its))
      by_place n false e its = none-stands n (packet_numbers (out_or_inside setup events s room)) (let none = times-above n 0 (length (offered_of events s.number)) (grind (arith, nat_tests, e)) in omega (arith, none, its))

  -- the same of all senders
  pub are-out_or_inside : AreOutOrInside setup events
  are-out_or_inside = for-queues setup whole (IsOutOrInside setup events) out-or_inside
