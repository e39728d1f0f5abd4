use Rattle.std.proofs.Common.{◌≡◌, ℕ, false, true, List, [], ◌∷◌, length, map, filter, take, drop, get_or, refl, sym, ap, ◌∙◌, subst, lit≤, arith, inl, inr, Vec}
use Rattle.std.proofs.lemmas.Bool.{false≢true}
use Rattle.std.proofs.lemmas.Option.{same_Some}
use Rattle.std.specs.List.{flat_map, AllByRecursion}
use Rattle.std.specs.declared.alloc.Global.{Global}
use Rattle.clk_packet.specs.declared.packet.Packet.{Packet}
use Rattle.clk_packet.specs.declared.packet.Kind.TheVariants.{TailDrop}
use Rattle.clk_packet.specs.Trace.{sent_by}
use Rattle.clk_packet.specs.Lists.{stands_in}
use Rattle.clk_sched.specs.Log.{pulls}
use Rattle.clk_sched.specs.Session.{LastGives}
use Rattle.clk_sched.specs.Tree.{Tree, queue, scheduler, root, leaves}
use Rattle.clk_sched.specs.Run.{IsRun}
use Rattle.clk_sched.specs.Results.{emitted}
use Rattle.clk_sched.specs.Examples.Priority.{p0_0, p1_0}
use Rattle.clk_tree.specs.Plan.{Planned}
use Rattle.clk_tree.specs.PlanTree.{IsTreeOf, device_count}
use Rattle.clk_sched.specs.declared.visit.Visit.{Visit}
use Rattle.clk_drain.specs.declared.outcome.Outcome.{Outcome}
use Rattle.clk_drain.specs.Moments.{HasMoments}
use Rattle.clk_drain.specs.Outcome.{Device, senders_to, IsSettledOutcome, IsQueueSettled}
use Rattle.clk_tree.specs.PlanParts.{SharedQueue, shared_queues}
use Rattle.clk_drain.specs.Run.{IsDeviceOf, IsRunOutcome}
use Rattle.clk_drain.proofs.Plans.Numbered.{AreDevicesFrom, are-many, devices-of}
use Rattle.clk_drain.specs.RunExamples.{plan, wider_plan, scheduled_plan, traces, Lists, HasLists, log_a, log_b, pull_too_many, closing_late, closing_goes_on, run_lists, device_missing, device_too_many, log_missing, emitted_missing, logs_swapped, devices_swapped, in_other_list, tally_left_out, with_pull_too_many, with_closing_late, with_closing_goes_on}
use Rattle.clk_drain.proofs.Runs.WorkedMoments.{moments-are, too-many, late, one-running, closing-is}
use Rattle.clk_drain.proofs.examples.run_examples.Goals as goal

-- What a run of a plan with two devices came to, device by device.
record OfTwo (planned : List Planned) (lists : Lists) : Type 0 where
  a : Device
  b : Device
  is_a : IsDeviceOf planned 0 a
  is_b : IsDeviceOf planned 1 b
  logged : lists.logs ≡ a.log ∷ b.log ∷ []
  came : lists.emitted ≡ a.emitted ∷ b.emitted ∷ []
  settled : IsSettledOutcome (sent_by traces) (a ∷ b ∷ []) lists.tallies
  moments_a : HasMoments 3 2 a.tree a.log
  moments_b : HasMoments 3 2 b.tree b.log

of-devices : (planned : List Planned) (lists : Lists) (devices : List Device) → device_count planned ≡ 2 → AreDevicesFrom planned 0 devices
    → lists.logs ≡ map (λ (d : Device). d.log) devices → lists.emitted ≡ map (λ (d : Device). d.emitted) devices
    → IsSettledOutcome (sent_by traces) devices lists.tallies → AllByRecursion (λ (d : Device). HasMoments 3 2 d.tree d.log) devices → OfTwo planned lists
of-devices planned lists [] two each logs emitted settled moments = absurd (omega (arith, two, each))
of-devices planned lists (a ∷ []) two each logs emitted settled moments = absurd (omega (arith, two, each.1))
of-devices planned lists (a ∷ b ∷ []) two each logs emitted settled moments =
    record { a = a; b = b; is_a = each.0; is_b = each.1.0; logged = logs; came = emitted; settled = settled; moments_a = moments.0; moments_b = moments.1.0 }
of-devices planned lists (a ∷ b ∷ c ∷ devices) two each logs emitted settled moments =
    let all = are-many planned 3 devices each.1.1.1 in absurd (omega (arith, two, all))

of-two : (planned : List Planned) (lists : Lists) (outcome : Outcome (Vec Visit Global)) → device_count planned ≡ 2 → HasLists lists outcome → IsRunOutcome planned traces 3 2 outcome → OfTwo planned lists
of-two planned lists outcome two h o =
    of-devices planned lists o.devices two (devices-of planned o.devices o.each) (sym h.logs ∙ o.logs_are) (sym h.emitted ∙ o.emitted)
    (subst (IsSettledOutcome (sent_by traces) o.devices) h.tallies o.settled) o.moments

first-log : (planned : List Planned) (lists : Lists) (t : OfTwo planned lists) → get_or lists.logs 0 [] ≡ t.a.log
first-log planned lists t = ap (λ l. get_or l 0 []) t.logged

second-log : (planned : List Planned) (lists : Lists) (t : OfTwo planned lists) → get_or lists.logs 1 [] ≡ t.b.log
second-log planned lists t = ap (λ l. get_or l 1 []) t.logged

first-emitted : (planned : List Planned) (lists : Lists) (t : OfTwo planned lists) → get_or lists.emitted 0 [] ≡ t.a.emitted
first-emitted planned lists t = ap (λ l. get_or l 0 []) t.came

-- what came out at each device is what its log says
first-came-out : (planned : List Planned) (lists : Lists) (t : OfTwo planned lists) → get_or lists.emitted 0 [] ≡ emitted (get_or lists.logs 0 [])
first-came-out planned lists t = first-emitted planned lists t ∙ t.settled.settled.0.emitted ∙ ap emitted (sym (first-log planned lists t))

-- the devices of the run
abbrev device_a : Device
device_a = record {
  tree = queue 0;
  queues = record { leaf = 0; kind = TailDrop; capacity = 1; senders = 0 ∷ [] } ∷ [];
  log = log_a;
  emitted = p0_0 ∷ [];
}

abbrev device_b : Device
device_b = record {
  tree = queue 1;
  queues = record { leaf = 1; kind = TailDrop; capacity = 2; senders = 1 ∷ [] } ∷ [];
  log = log_b;
  emitted = p1_0 ∷ [];
}

run-settled : IsSettledOutcome (sent_by traces) (device_a ∷ device_b ∷ []) run_lists.tallies
run-settled =
    record {
      rise = ((lit≤ tt, tt), (tt, tt));
      known = (refl, (refl, tt));
      settled = (
        record {
          run = record {
            shape = record { blocks = refl; one_moment = ((refl, tt), ((refl, tt), tt)); moments = (lit≤ tt, (lit≤ tt, tt)) };
            device = (record { plain = (record { fresh = refl; passed = refl }, tt); in_order = (refl, tt) }, (record { plain = (record { fresh = refl; passed = refl }, tt); in_order = (refl, refl) }, tt));
            below = tt;
          };
          emitted = refl;
          queues = (
            record {
              each = (record { offered_are = inl ([], refl, inr ([], refl, (refl, refl))); accepted_are = inr ([], refl, (refl, refl)); tail_drop = λ _. refl; front_drop = λ e. absurd (cc) }, tt);
              given = refl;
              reached = λ _. lit≤ tt;
            },
            tt,
          );
          own = (refl, tt);
        },
        (
          record {
            run = record {
              shape = record { blocks = refl; one_moment = ((refl, tt), ((refl, tt), tt)); moments = (lit≤ tt, (lit≤ tt, tt)) };
              device = (record { plain = (record { fresh = refl; passed = refl }, tt); in_order = (refl, tt) }, (record { plain = (record { fresh = refl; passed = refl }, tt); in_order = (refl, refl) }, tt));
              below = tt;
            };
            emitted = refl;
            queues = (
              record {
                each = (record { offered_are = inl ([], refl, (refl, refl)); accepted_are = inr ([], refl, (refl, refl)); tail_drop = λ _. refl; front_drop = λ e. absurd (cc) }, tt);
                given = refl;
                reached = λ lost. absurd (omega (arith, lost));
              },
              tt,
            );
            own = (refl, tt);
          },
          tt,
        ),
      );
    }

pub returns-clause-is_run : goal.returns-clause-is_run
returns-clause-is_run c =
    λ outcome h. record {
      devices = device_a ∷ device_b ∷ [];
      each = (record { tree = (refl, tt); queues = refl }, (record { tree = (refl, tt); queues = refl }, tt));
      logs_are = h.logs;
      emitted = h.emitted;
      settled = subst (IsSettledOutcome (sent_by traces) (device_a ∷ device_b ∷ [])) (sym h.tallies) run-settled;
      moments = (
        record { running = pulls log_a; closing = []; pulls_are = refl; within = lit≤ tt; each_step = refl; each_tick = refl; stops = tt; few = lit≤ tt },
        (record { running = take 1 (pulls log_b); closing = drop 1 (pulls log_b); pulls_are = refl; within = lit≤ tt; each_step = refl; each_tick = refl; stops = refl; few = lit≤ tt }, tt),
      );
    }

-- The tree of a device is its one queue, and that is the only queue of the device.
tree-a : (tree : Tree) → IsTreeOf plan 0 tree → tree ≡ queue 0
tree-a (queue n) is = ap queue (sym (same_Some 0 n is.0))
tree-a (scheduler class inputs) is = let none = is.0 in absurd (cc)

wider-tree-a : (tree : Tree) → IsTreeOf wider_plan 0 tree → tree ≡ queue 0
wider-tree-a (queue n) is = ap queue (sym (same_Some 0 n is.0))
wider-tree-a (scheduler class inputs) is = let none = is.0 in absurd (cc)

tree-b : (tree : Tree) → IsTreeOf plan 1 tree → tree ≡ queue 1
tree-b (queue n) is = ap queue (sym (same_Some 1 n is.0))
tree-b (scheduler class inputs) is = let none = is.0 in absurd (cc)

only-queue : (planned : List Planned) (n q : ℕ) (d : Device) → IsDeviceOf planned n d → d.tree ≡ queue q → d.queues ≡ filter (λ (k : SharedQueue). stands_in k.leaf (q ∷ [])) (shared_queues planned)
only-queue planned n q d is e = is.queues ∙ ap (λ (tree : Tree). filter (λ (k : SharedQueue). stands_in k.leaf (leaves (root tree))) (shared_queues planned)) e

-- The first queue may hold three packets, and took one.
pub returns-clause-not_of_wider_plan : goal.returns-clause-not_of_wider_plan
returns-clause-not_of_wider_plan c =
    λ outcome h o.
    let t = of-two wider_plan run_lists outcome refl h o in
    let queues = subst (AllByRecursion (IsQueueSettled (sent_by traces) run_lists.tallies t.a)) (only-queue wider_plan 0 0 t.a t.is_a (wider-tree-a t.a.tree t.is_a.tree)) t.settled.settled.0.queues in
    let full = queues.0.reached (lit≤ tt) in absurd (omega (arith, full))

-- A scheduler that gave a packet was visited.
unvisited : (tree : Tree) → IsTreeOf scheduled_plan 0 tree → IsRun tree log_a → ⊥
unvisited (queue n) is run = let number = is.0 in absurd (cc)
unvisited (scheduler class inputs) is run = let got = run.below.0.1.1.0.0 in absurd (cc)

pub returns-clause-not_of_scheduled_plan : goal.returns-clause-not_of_scheduled_plan
returns-clause-not_of_scheduled_plan c =
    λ outcome h o.
    let t = of-two scheduled_plan run_lists outcome refl h o in
    unvisited t.a.tree t.is_a.tree (subst (IsRun t.a.tree) (sym (first-log scheduled_plan run_lists t)) t.settled.settled.0.run)

pub returns-clause-not_device_missing : goal.returns-clause-not_device_missing
returns-clause-not_device_missing c = λ outcome h o. let counts = ap length (of-two plan device_missing outcome refl h o).logged in absurd (omega (arith, counts))

pub returns-clause-not_device_too_many : goal.returns-clause-not_device_too_many
returns-clause-not_device_too_many c = λ outcome h o. let counts = ap length (of-two plan device_too_many outcome refl h o).logged in absurd (omega (arith, counts))

pub returns-clause-not_log_missing : goal.returns-clause-not_log_missing
returns-clause-not_log_missing c = λ outcome h o. let counts = ap length (of-two plan log_missing outcome refl h o).logged in absurd (omega (arith, counts))

pub returns-clause-not_emitted_missing : goal.returns-clause-not_emitted_missing
returns-clause-not_emitted_missing c = λ outcome h o. let counts = ap length (of-two plan emitted_missing outcome refl h o).came in absurd (omega (arith, counts))

pub returns-clause-not_logs_swapped : goal.returns-clause-not_logs_swapped
returns-clause-not_logs_swapped c =
    λ outcome h o.
    let t = of-two plan logs_swapped outcome refl h o in
    let senders = ap (map (λ (p : Packet). p.sender)) (first-came-out plan logs_swapped t) in absurd (cc)

-- The first device has no queue of the second sender.
pub returns-clause-not_devices_swapped : goal.returns-clause-not_devices_swapped
returns-clause-not_devices_swapped c =
    λ outcome h o.
    let t = of-two plan devices_swapped outcome refl h o in
    let own = subst (AllByRecursion (λ (p : Packet). stands_in p.sender (senders_to t.a) ≡ true)) (sym (first-emitted plan devices_swapped t)) t.settled.settled.0.own in
    let none : stands_in 1 (senders_to t.a) ≡ false = ap (λ qs. stands_in 1 (flat_map (λ (q : SharedQueue). q.senders) qs)) (only-queue plan 0 0 t.a t.is_a (tree-a t.a.tree t.is_a.tree)) in
    absurd (false≢true (sym none ∙ own.0))

pub returns-clause-not_in_other_list : goal.returns-clause-not_in_other_list
returns-clause-not_in_other_list c =
    λ outcome h o.
    let t = of-two plan in_other_list outcome refl h o in
    let counts = ap length (first-came-out plan in_other_list t) in absurd (omega (arith, counts))

pub returns-clause-not_tally_missing : goal.returns-clause-not_tally_missing
returns-clause-not_tally_missing c =
    λ outcome h o.
    let t = of-two plan tally_left_out outcome refl h o in
    let queues = subst (AllByRecursion (IsQueueSettled (sent_by traces) tally_left_out.tallies t.b)) (only-queue plan 1 1 t.b t.is_b (tree-b t.b.tree t.is_b.tree)) t.settled.settled.1.0.queues in
    absurd queues.0.each.0

pub returns-clause-not_pull_too_many : goal.returns-clause-not_pull_too_many
returns-clause-not_pull_too_many c =
    λ outcome h o.
    let t = of-two plan with_pull_too_many outcome refl h o in
    let m : HasMoments 3 2 t.a.tree pull_too_many = subst (HasMoments 3 2 t.a.tree) (sym (first-log plan with_pull_too_many t)) t.moments_a in
    too-many (length m.running) (length m.closing) m.within (moments-are t.a.tree pull_too_many m)

pub returns-clause-not_closing_late : goal.returns-clause-not_closing_late
returns-clause-not_closing_late c =
    λ outcome h o.
    let t = of-two plan with_closing_late outcome refl h o in
    let m : HasMoments 3 2 t.b.tree closing_late = subst (HasMoments 3 2 t.b.tree) (sym (second-log plan with_closing_late t)) t.moments_b in
    late (length m.running) (length m.closing) m.within (moments-are t.b.tree closing_late m)

pub returns-clause-not_closing_goes_on : goal.returns-clause-not_closing_goes_on
returns-clause-not_closing_goes_on c =
    λ outcome h o.
    let t = of-two plan with_closing_goes_on outcome refl h o in
    let m : HasMoments 3 2 t.b.tree closing_goes_on = subst (HasMoments 3 2 t.b.tree) (sym (second-log plan with_closing_goes_on t)) t.moments_b in
    let one = one-running (length m.running) (length m.closing) m.within (moments-are t.b.tree closing_goes_on m) in
    absurd (false≢true (subst LastGives (closing-is t.b.tree closing_goes_on 1 m one) m.stops))
