-- Over one device the meaning of a script is that without numbers of devices.
use Rattle.std.proofs.Common.{◌≡◌, ℕ, ◌+◌, ◌<◌, ◌==◌, ◌&&◌, zero, suc, nat_lt, true, false, List, [], ◌∷◌, ◌++◌, length, map, Option, Some, None, MatchOption, slice_get, append-nil, refl, sym, ap, ap₂, ◌∙◌, subst, arith, rules}
use Rattle.std.specs.Bool.{⊤}
use Rattle.std.specs.Option.{option_map_or}
use Rattle.std.specs.List.{flat_map, range_with_len, AllByRecursion, list_any}
use Rattle.std.proofs.lemmas.Bool.Decides.{nat_tests}
use Rattle.clk_packet.specs.declared.packet.Packet.{Packet}
use Rattle.clk_ring.specs.QueueHistory.{IsQueueHistory}
use Rattle.clk_sched.specs.declared.visit.Visit.{Visit}
use Rattle.clk_sched.specs.Tree.{Tree}
use Rattle.clk_sched.specs.Log.{visits_of, result_of}
use Rattle.clk_sched.specs.Results.{emitted}
use Rattle.clk_sched.proofs.Callers.Lists.{filter-all}
use Rattle.clk_tree.specs.declared.plan.parts.SenderSpec.{SenderSpec}
use Rattle.clk_tree.specs.PlanParts.{number_of}
use Rattle.clk_report.specs.Report.{report_text}
use Rattle.clk_script.specs.Script.{closing_moment}
use Rattle.clk_router.specs.Events.{Room, Setup, sender_numbers, is_of_device, Event, offered, pulled, happens_at, events_at, log_of, logs_of, tally_after, answers_in, at_queue, history, IsOfDevice, IsOfSender, RunsTree, CanHappen, pulls_from, Closes}
use Rattle.clk_script.specs.Meaning.{names_of, has_several, command_of, event_text, pull_text, closing_text, CloseFirst, IsClosed, ending_text, IsMeaning}
use Rattle.clk_script.specs.inside.ScriptRouter.{IsSound}
use Rattle.clk_script.specs.OneDevice.{HasOneDevice, its_history, CanHappenAlone, pull_line, event_line, closing_line, IsClosedAlone, ending_alone, IsMeaningAlone}
use Rattle.clk_router.proofs.Callers.Events.{all-join}
use Rattle.clk_script.proofs.Meanings.ScriptLemmas.{each-command-sound}

-- all of some events happen at the device
abbrev AllHere : Setup → List Event → Type 0
AllHere setup events = AllByRecursion (λ e. happens_at setup 0 e ≡ true) events

-- a sender that is known sends to a queue of the device
known-here : (queues : List Room) (n : ℕ) (specs : List SenderSpec) → AllByRecursion (λ (s : SenderSpec). is_of_device queues 0 s ≡ true) specs
    → list_any (λ (s : SenderSpec). (s.number == n) && is_of_device queues 0 s) specs ≡ list_any (λ s. s == n) (map number_of specs)
known-here queues n [] all = refl
known-here queues n (s ∷ specs) all = search (rules, (known-here queues n specs all.1))

module _ (setup : Setup) (tree : Tree) (one : HasOneDevice setup tree) where
  -- events of sound commands, and closing pulls, happen at the device
  sound-here : (events : List Event) → AllByRecursion (IsSound (names_of setup)) (map command_of events) → AllHere setup events
  sound-here [] sound = tt
  sound-here (offered p outcome ∷ events) sound = (known-here setup.queues p.sender setup.senders one.senders ∙ sound.0.0, sound-here events sound.1)
  sound-here (pulled device moment visits ∷ events) sound =
      let below : device < 1 = subst (λ ts. device < length ts) one.trees sound.0 in
      let its : (device == 0) ≡ true = grind (arith, nat_tests) in
      (its, sound-here events sound.1)

  pulls-all : (t : ℕ) (more : List (List Visit)) → AllHere setup (pulls_from 0 t more)
  pulls-all t [] = tt
  pulls-all t (visits ∷ more) = (refl, pulls-all (t + 1) more)

  -- what they are to a queue
  tree-at : (device : ℕ) → (device == 0) ≡ true → slice_get setup.trees device ≡ Some tree
  tree-at device its =
      let same : device ≡ 0 = grind (arith, nat_tests) in
      ap₂ (λ ts n. slice_get ts n) one.trees same

  history-here : (q : ℕ) (events : List Event) → AllHere setup events → history setup q events ≡ its_history setup tree q events
  history-here q [] all = refl
  history-here q (offered p outcome ∷ events) all = ap (λ l. at_queue setup q (offered p outcome) ++ l) (history-here q events all.1)
  history-here q (pulled device moment visits ∷ events) all = ap₂ (λ a b. a ++ b) (ap (λ o. answers_in o q visits) (tree-at device all.0)) (history-here q events all.1)

  -- the same events can happen
  can-alone : (events : List Event) → AllHere setup events → CanHappen setup events → CanHappenAlone setup tree events
  can-alone events all can =
      record {
        numbered = can.numbered;
        runs = subst (RunsTree tree) (filter-all (happens_at setup 0) events all) (subst (λ o. MatchOption o ⊤ (λ t. RunsTree t (events_at setup 0 events))) (tree-at 0 refl) (can.runs 0));
        refusals = can.refusals;
        histories = λ q. subst (λ l. MatchOption (slice_get setup.queues q) ⊤ (λ (room : Room). IsQueueHistory room.kind room.capacity l)) (history-here q events all) (can.histories q);
      }

  of-device : (events : List Event) → AllHere setup events → AllByRecursion (IsOfDevice 1) events
  of-device [] all = tt
  of-device (offered p outcome ∷ events) all = (tt, of-device events all.1)
  of-device (pulled device moment visits ∷ events) all = (let its = all.0 in grind (arith, nat_tests), of-device events all.1)

  of-sender : (events : List Event) → AllHere setup events → AllByRecursion (IsOfSender setup) events
  of-sender [] all = tt
  of-sender (offered p outcome ∷ events) all = (sym (known-here setup.queues p.sender setup.senders one.senders) ∙ all.0, of-sender events all.1)
  of-sender (pulled device moment visits ∷ events) all = (tt, of-sender events all.1)

  can-several : (events : List Event) → AllHere setup events → CanHappenAlone setup tree events → CanHappen setup events
  can-several events all can =
      record {
        senders = of-sender events all;
        numbered = can.numbered;
        devices = subst (λ ts. AllByRecursion (IsOfDevice (length ts)) events) (sym one.trees) (of-device events all);
        runs = subst (λ ts. (d : ℕ) → MatchOption (slice_get ts d) ⊤ (λ t. RunsTree t (events_at setup d events))) (sym one.trees) runs;
        refusals = can.refusals;
        histories = λ q. subst (λ l. MatchOption (slice_get setup.queues q) ⊤ (λ (room : Room). IsQueueHistory room.kind room.capacity l)) (sym (history-here q events all)) (can.histories q);
      }
    where
      runs : (d : ℕ) → MatchOption (slice_get (tree ∷ []) d) ⊤ (λ t. RunsTree t (events_at setup d events))
      runs zero = subst (RunsTree tree) (sym (filter-all (happens_at setup 0) events all)) can.runs
      runs (suc d) = tt

  -- they are closed alike
  closed-alone : (drain : Option ℕ) (events closed : List Event) → AllHere setup events → IsClosed setup drain events closed → IsClosedAlone drain events closed
  closed-alone None events closed all closes = closes
  closed-alone (Some moment) events closed all closes = first (subst (λ ts. CloseFirst setup moment (length ts) events closed) one.trees closes)
    where
      first : CloseFirst setup moment 1 events closed → Closes 0 moment events closed
      first (before, last, none, its, are) =
          subst (Closes 0 moment events) (ap (λ l. l ++ last) (sym none) ∙ sym are)
          (subst (λ es. Closes 0 moment es last) (ap (λ l. events_at setup 0 (events ++ l)) none ∙ ap (events_at setup 0) (append-nil events) ∙ filter-all (happens_at setup 0) events all) its)

  closed-several : (drain : Option ℕ) (events closed : List Event) → AllHere setup events → IsClosedAlone drain events closed → IsClosed setup drain events closed
  closed-several None events closed all closes = closes
  closed-several (Some moment) events closed all closes = subst (λ ts. CloseFirst setup moment (length ts) events closed) (sym one.trees) last
    where
      last : CloseFirst setup moment 1 events closed
      last = ([], closed, refl, subst (λ es. Closes 0 moment es closed) (sym (ap (events_at setup 0) (append-nil events) ∙ filter-all (happens_at setup 0) events all)) closes, refl)

  closed-here : (drain : Option ℕ) (events closed : List Event) → IsClosedAlone drain events closed → AllHere setup closed
  closed-here None events closed closes = subst (AllHere setup) (sym closes) tt
  closed-here (Some moment) events closed closes = subst (AllHere setup) (sym closes.are) (pulls-all _ closes.closing)

  -- and write the same
  alone : has_several setup ≡ false
  alone = ap (λ ts. nat_lt 1 (length ts)) one.trees

  events-written : (events : List Event) → flat_map (event_text false) events ≡ flat_map event_line events
  events-written [] = refl
  events-written (offered p outcome ∷ events) = ap (λ l. event_line (offered p outcome) ++ l) (events-written events)
  events-written (pulled device moment visits ∷ events) = ap (λ l. event_line (pulled device moment visits) ++ l) (events-written events)

  given-written : (device moment : ℕ) (got : Option Packet) → option_map_or (λ (p : Packet). pull_text false device moment got) got [] ≡ option_map_or (λ (p : Packet). pull_line moment got) got []
  given-written device moment None = refl
  given-written device moment (Some p) = refl

  closing-written : (events : List Event) → flat_map (closing_text false) events ≡ flat_map closing_line events
  closing-written [] = refl
  closing-written (offered p outcome ∷ events) = closing-written events
  closing-written (pulled device moment visits ∷ events) = ap₂ (λ a b. a ++ b) (given-written device moment (result_of (visits_of 0 visits))) (closing-written events)

  ending-written : (drain : Option ℕ) (events : List Event) → AllHere setup events → ending_text setup drain events ≡ ending_alone setup drain events
  ending-written None events all = refl
  ending-written (Some moment) events all = ap (λ l. report_text l (map (tally_after events) (sender_numbers setup))) its
    where
      its : flat_map emitted (logs_of setup events) ≡ emitted (log_of events)
      its =
          ap (λ ts. flat_map emitted (map (λ d. log_of (events_at setup d events)) (range_with_len 0 (length ts)))) one.trees ∙ append-nil (emitted (log_of (events_at setup 0 events)))
          ∙ ap (λ es. emitted (log_of es)) (filter-all (happens_at setup 0) events all)

  lines-written : (drain : Option ℕ) (events closed : List Event) → AllHere setup (events ++ closed)
      → flat_map (event_text (has_several setup)) events ++ (flat_map (closing_text (has_several setup)) closed ++ ending_text setup drain (events ++ closed))
      ≡ flat_map event_line events ++ (flat_map closing_line closed ++ ending_alone setup drain (events ++ closed))
  lines-written drain events closed all =
      ap₂ (λ a b. a ++ b) (ap (λ b. flat_map (event_text b) events) alone ∙ events-written events)
      (ap₂ (λ a b. a ++ b) (ap (λ b. flat_map (closing_text b) closed) alone ∙ closing-written closed) (ending-written drain (events ++ closed) all))

  -- So the meaning is the same.
  pub meaning-alone : (script text : List ℕ) → IsMeaning setup script text → IsMeaningAlone setup tree script text
  meaning-alone script text means =
      let written = means.1.written in
      let here = sound-here written.events (subst (AllByRecursion (IsSound (names_of setup))) (sym written.theirs) (each-command-sound (names_of setup) script means.1.sound)) in
      let closes = closed-alone (closing_moment script) written.events written.closed here written.closes in
      let all = all-join (λ e. happens_at setup 0 e ≡ true) written.events written.closed here (closed-here (closing_moment script) written.events written.closed closes) in
      record {
        sound = means.1.sound;
        written = record {
          events = written.events;
          theirs = written.theirs;
          closed = written.closed;
          closes = closes;
          can_happen = can-alone (written.events ++ written.closed) all written.can_happen;
          lines = written.lines ∙ lines-written (closing_moment script) written.events written.closed all;
        };
      }

  pub meaning-several : (script text : List ℕ) → IsMeaningAlone setup tree script text → IsMeaning setup script text
  meaning-several script text means =
      let written = means.written in
      let here = sound-here written.events (subst (AllByRecursion (IsSound (names_of setup))) (sym written.theirs) (each-command-sound (names_of setup) script means.sound)) in
      let all = all-join (λ e. happens_at setup 0 e ≡ true) written.events written.closed here (closed-here (closing_moment script) written.events written.closed written.closes) in (
        logs_of setup (written.events ++ written.closed),
        record {
          sound = means.sound;
          written = record {
            events = written.events;
            theirs = written.theirs;
            closed = written.closed;
            closes = closed-several (closing_moment script) written.events written.closed here written.closes;
            can_happen = can-several (written.events ++ written.closed) all written.can_happen;
            lines = written.lines ∙ sym (lines-written (closing_moment script) written.events written.closed all);
            logged = refl;
          };
        },
      )
