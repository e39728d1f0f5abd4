-- After a run, the tallies account for what all devices emitted.
use Rattle.std.proofs.Common.{◌≡◌, ℕ, suc, ◌+◌, ◌<◌, ◌==◌, ◌||◌, ⊎_elim, Bool, true, false, true≢false, List, [], ◌∷◌, ◌++◌, length, map, Some, MatchOption, slice_get, refl, sym, ap, ◌∙◌, subst, arith, append-nil, if◌then◌else◌}
use Rattle.std.proofs.lemmas.Bool.{eqb-true, false_from_ne_true}
use Rattle.std.proofs.lemmas.List.Elements.{filter-append}
use Rattle.std.specs.List.{flat_map, AllByRecursion}
use Rattle.clk_packet.specs.declared.packet.Packet.{Packet}
use Rattle.clk_packet.specs.declared.tally.Tally.{Tally}
use Rattle.clk_packet.specs.Dealt.{IsDealt}
use Rattle.clk_packet.specs.Lists.{of_sender, stands_in, are_distinct}
use Rattle.clk_packet.specs.Trace.{sent_by}
use Rattle.clk_packet.proofs.Callers.Lists.{stands-right, stands-either, all-both}
use Rattle.clk_sched.specs.Tree.{Tree}
use Rattle.clk_tree.specs.Plan.{Planned}
use Rattle.clk_tree.specs.PlanTree.{device_count}
use Rattle.clk_tree.specs.Shares.{AreTreesOf, AreSharedOut}
use Rattle.clk_tree.specs.PlanParts.{Queued, queues_of, SharedQueue}
use Rattle.clk_drain.specs.Laws.{RunsAccountForEmitted}
use Rattle.clk_drain.specs.Outcome.{Device, senders_to, tally_for, IsQueueSettled, IsDeviceSettled}
use Rattle.clk_drain.proofs.Plans.Numbered.{AreDevicesFrom, devices-of}
use Rattle.clk_drain.proofs.Plans.Apart.{not-both, apart-parts, none-left}
use Rattle.clk_drain.proofs.Threads.Joining.{senders_over}
use Rattle.clk_drain.proofs.Plans.PlanDevices.{queues_by_device, apart-by-device}
use Rattle.clk_drain.proofs.Drains.Tallies.{IsTallied, found-rising}
use Rattle.clk_drain.proofs.Runs.Leads.{trees_of, HasTrees, has-trees, its-queues}

-- What holds of all numbers holds of one that stands among them.
of-standing : (P : ℕ → Type 0) (numbers : List ℕ) (s : ℕ) → AllByRecursion P numbers → stands_in s numbers ≡ true → P s
of-standing P [] s h has = absurd (true≢false (sym has))
of-standing P (n ∷ numbers) s h has = by_test (n == s) refl (of-standing P numbers s h.1) has
  where
    by_test : (b : Bool) → (n == s) ≡ b → (stands_in s numbers ≡ true → P s) → (b || stands_in s numbers) ≡ true → P s
    by_test true same later is = subst P (eqb-true n s same) h.0
    by_test false other later is = later is

-- Of a sender that is none of these there is no packet among theirs.
no-packet : (s : ℕ) (senders : List ℕ) (packets : List Packet) → stands_in s senders ≡ false → AllByRecursion (λ (p : Packet). stands_in p.sender senders ≡ true) packets → of_sender s packets ≡ []
no-packet s senders [] none own = refl
no-packet s senders (p ∷ packets) none own = by_test (p.sender == s) refl (no-packet s senders packets none own.1)
  where
    by_test : (b : Bool) → (p.sender == s) ≡ b → of_sender s packets ≡ [] → (if b then p ∷ of_sender s packets else of_sender s packets) ≡ []
    by_test true same rest = absurd (true≢false (sym own.0 ∙ ap (λ n. stands_in n senders) (eqb-true p.sender s same) ∙ none))
    by_test false other rest = rest

-- all that some devices emitted
abbrev all_out : List Device → List Packet
all_out devices = flat_map (λ (d : Device). d.emitted) devices

-- Devices, each settled with these tallies.
module _ (sent : ℕ → List Packet) (tallies : List Tally) where
  none-out : (s : ℕ) (devices : List Device) → stands_in s (flat_map senders_to devices) ≡ false → AllByRecursion (IsDeviceSettled sent tallies) devices → of_sender s (all_out devices) ≡ []
  none-out s [] none h = refl
  none-out s (d ∷ devices) none h =
      filter-append (λ (p : Packet). p.sender == s) d.emitted (all_out devices)
      ∙ ap (λ l. l ++ of_sender s (all_out devices)) (no-packet s (senders_to d) d.emitted (none-left s (senders_to d) (flat_map senders_to devices) none) h.0.own)
      ∙ none-out s devices (false_from_ne_true _ (λ has. true≢false (sym (stands-right s (senders_to d) (flat_map senders_to devices) has) ∙ none))) h.1

  -- The tally of a sender to one of these queues accounts for what their device emitted of it.
  at-queues : (d : Device) (t : Tally) (queues : List SharedQueue) → tally_for tallies t.sender ≡ Some t → AllByRecursion (IsQueueSettled sent tallies d) queues
      → stands_in t.sender (flat_map (λ (q : SharedQueue). q.senders) queues) ≡ true → IsDealt t.accepted t.evicted (of_sender t.sender d.emitted)
  at-queues d t [] found h has = absurd (true≢false (sym has))
  at-queues d t (q ∷ queues) found h has = ⊎_elim
      (λ here.
      (subst (λ o. MatchOption o ⊥ (IsTallied sent d q)) found (of-standing (λ s. MatchOption (tally_for tallies s) ⊥ (IsTallied sent d q)) q.senders t.sender h.0.each here)).accepted_are)
      (at-queues d t queues found h.1)
      (stands-either t.sender q.senders (flat_map (λ (q : SharedQueue). q.senders) queues) has)

  -- It accounts for what all devices emitted, where no sender sends to two.
  at-devices : (t : Tally) (devices : List Device) → tally_for tallies t.sender ≡ Some t → AllByRecursion (IsDeviceSettled sent tallies) devices → are_distinct (flat_map senders_to devices) ≡ true
      → stands_in t.sender (flat_map senders_to devices) ≡ true → IsDealt t.accepted t.evicted (of_sender t.sender (all_out devices))
  at-devices t [] found h apart has = absurd (true≢false (sym has))
  at-devices t (d ∷ devices) found h apart has = by_test (stands_in t.sender (senders_to d)) refl (at-devices t devices found h.1 (apart-parts (senders_to d) (flat_map senders_to devices) apart).1)
    where
      both : of_sender t.sender (d.emitted ++ all_out devices) ≡ of_sender t.sender d.emitted ++ of_sender t.sender (all_out devices)
      both = filter-append (λ (p : Packet). p.sender == t.sender) d.emitted (all_out devices)

      among : List Packet → Type 0
      among emitted = IsDealt t.accepted t.evicted emitted

      by_test : (b : Bool) → stands_in t.sender (senders_to d) ≡ b → (stands_in t.sender (flat_map senders_to devices) ≡ true → among (of_sender t.sender (all_out devices)))
          → among (of_sender t.sender (d.emitted ++ all_out devices))
      by_test true here rest =
          let none = none-out t.sender devices (false_from_ne_true _ (not-both (senders_to d) (flat_map senders_to devices) t.sender apart here)) h.1 in
          subst among (sym (both ∙ ap (λ l. of_sender t.sender d.emitted ++ l) none ∙ append-nil (of_sender t.sender d.emitted))) (at-queues d t d.queues found h.0.queues here)
      by_test false there rest =
          let none = no-packet t.sender (senders_to d) d.emitted there h.0.own in
          subst among (sym (both ∙ ap (λ l. l ++ of_sender t.sender (all_out devices)) none))
          (rest (⊎_elim (λ here. absurd (true≢false (sym here ∙ there))) (λ later. later) (stands-either t.sender (senders_to d) (flat_map senders_to devices) has)))

-- The senders to the devices of a plan.
plan-senders : (plan : List Planned) (trees : List Tree) → HasTrees plan trees → (first : ℕ) (devices : List Device) → AreDevicesFrom plan first devices → ((n : ℕ) → slice_get trees (first + n) ≡ slice_get (trees_of devices) n)
    → flat_map senders_to devices ≡ flat_map senders_over (queues_by_device (queues_of plan) first (length devices))
plan-senders plan trees known first [] h at = refl
plan-senders plan trees known first (d ∷ devices) h at =
    let here : slice_get trees first ≡ Some d.tree = subst (λ n. slice_get trees n ≡ Some d.tree) (omega arith) (at 0) in
    let rest = plan-senders plan trees known (suc first) devices h.1 (λ n. subst (λ m. slice_get trees m ≡ slice_get (trees_of devices) n) (omega arith) (at (suc n))) in
    λ i. senders_over (its-queues plan trees first d known here h.0 i) ++ (rest ∙ ap (λ n. flat_map senders_over (queues_by_device (queues_of plan) n (length devices))) (let e : suc first ≡ first + 1 = omega arith in e)) i

joined-out : (devices : List Device) → flat_map (λ (d : Device). d.emitted) devices ≡ flat_map (λ (emitted : List Packet). emitted) (map (λ (d : Device). d.emitted) devices)
joined-out [] = refl
joined-out (d ∷ devices) = ap (λ rest. d.emitted ++ rest) (joined-out devices)

pub runs-account : (plan : List Planned) → ((trees : List Tree) → AreTreesOf plan trees → AreSharedOut (queues_of plan) trees) → AllByRecursion (λ (k : Queued). k.device < device_count plan) (queues_of plan)
    → are_distinct (flat_map (λ (k : Queued). k.senders) (queues_of plan)) ≡ true → RunsAccountForEmitted plan
runs-account plan shared within apart traces step limit logs packets tallies run =
    let each = devices-of plan run.devices run.each in
    let apart_devices = subst (λ senders. are_distinct senders ≡ true) (sym (plan-senders plan (trees_of run.devices) (has-trees plan shared within apart run.devices each) 0 run.devices each (λ n. ap (slice_get (trees_of run.devices)) (omega arith)))) (apart-by-device (queues_of plan) 0 (length run.devices) apart) in
    all-both (λ (t : Tally). stands_in t.sender (flat_map senders_to run.devices) ≡ true) (λ (t : Tally). tally_for tallies t.sender ≡ Some t)
    (λ (t : Tally). IsDealt t.accepted t.evicted (of_sender t.sender (flat_map (λ (emitted : List Packet). emitted) packets))) tallies
    (λ t known found.
    subst (λ out. IsDealt t.accepted t.evicted (of_sender t.sender out)) (joined-out run.devices ∙ ap (flat_map (λ (emitted : List Packet). emitted)) (sym run.emitted))
    (at-devices (sent_by traces) tallies t run.devices found run.settled.settled apart_devices known))
    run.settled.known (found-rising tallies run.settled.rise)
