-- What carrying out a whole script again writes: of a device, and of all.
use Rattle.std.proofs.lemmas.Grind.{common_steps}
use Rattle.std.proofs.Common.{◌≡◌, ℕ, zero, suc, ◌+◌, ◌-◌, ◌<◌, ◌≤◌, ◌==◌, max, nat_lt, codes, Bool, true, false, List, [], ◌∷◌, ◌++◌, length, map, fold, drop, OnOk, Option, Some, None, Result, Ok, Err, refl, sym, ap, ap₂, ◌∙◌, subst, append_assoc, append-nil, arith, rules}
use Rattle.std.specs.List.{filter_map, range_with_len}
use Rattle.std.proofs.lemmas.Bool.Decides.{nat_tests}
use Rattle.std.proofs.lemmas.List.{map-append, length-map, length-append, take-append-drop}
use Rattle.std.proofs.lemmas.List.Concat.{flat_map-append}
use Rattle.std.proofs.lemmas.List.FromFn.{length-map-range_with_len, map-range_with_len_more, take-map-range_with_len}
use Rattle.std.proofs.lemmas.List.Elements.{filter-append, filter_map-append}
use Rattle.clk_packet.specs.Bytes.{Wrote}
use Rattle.clk_packet.specs.declared.fault.Fault.{Fault}
use Rattle.clk_packet.specs.Lists.{AreRising}
use Rattle.clk_packet.proofs.Callers.Bytes.{Wrote-then, Wrote-cut}
use Rattle.clk_report.specs.VisitCsv.{devices_text, header_of, header_text, rows_text, visits_text}
use Rattle.clk_sched.specs.declared.visit.Visit.{Visit}
use Rattle.clk_sched.specs.Keeps.{keeps_latest}
use Rattle.clk_sched.specs.Tree.{Tree}
use Rattle.clk_tree.specs.Plan.{Planned}
use Rattle.clk_tree.specs.Shares.{AreTreesOf}
use Rattle.clk_tree.proofs.Callers.OneTree.{one-trees}
use Rattle.clk_router.specs.Course.{Course, events_of, moment_at, IsOpened}
use Rattle.clk_router.specs.Events.{Setup, sender_numbers, Event, happens_at, events_at, visits_in, moment_in, log_of, pulls_from, plan_setup, Closes, CanHappen}
use Rattle.clk_router.proofs.Callers.Events.{pulls-here, pulls-elsewhere, pulls-moments}
use Rattle.clk_script.specs.declared.answer.Answer.{Answer}
use Rattle.clk_script.specs.declared.script.Command.{Command}
use Rattle.clk_script.specs.declared.script.Command.TheVariants.{Pull}
use Rattle.clk_script.specs.Meaning.{command_of, CloseFirst, IsClosed}
use Rattle.clk_script.specs.inside.Rows.{Answers}
use Rattle.clk_script.specs.inside.Replay.{asked_at, pulls_asked, device_rows, column_of, CanReplay, CarriedOn, DevicesGoAlike, Outgoing, HeldOn, IsAnswerOver}
use Rattle.clk_script.proofs.Carrying.HeldLemmas.{held-cut}
use Rattle.clk_script.proofs.Carrying.CarriedLemmas.{commands-there, events-own}

-- the moments of events are those of their commands
moments-asked : (events others : List Event) → map command_of events ≡ map command_of others → filter_map moment_in events ≡ filter_map moment_in others
moments-asked [] [] e = refl
moments-asked [] (f ∷ others) e = absurd (omega (arith, ap length e))
moments-asked (f ∷ events) [] e = absurd (omega (arith, ap length e))
moments-asked (f ∷ events) (g ∷ others) e =
    let first : command_of f ≡ command_of g = cc in
    let later : map command_of events ≡ map command_of others = cc in
    by_event f g first (moments-asked events others later)
  where
    by_event : (f g : Event) → command_of f ≡ command_of g → filter_map moment_in events ≡ filter_map moment_in others → filter_map moment_in (f ∷ events) ≡ filter_map moment_in (g ∷ others)
    by_event f g first rest = search rules

-- the drain of a device among those of the first devices
record HasDrain (setup : Setup) (moment d : ℕ) (events closed : List Event) : Type 0 where
  pub pulls : List (List Visit)
  pub are : events_at setup d closed ≡ pulls_from d (max (fold max 0 (filter_map moment_in (events_at setup d events))) moment + 1) pulls

none-closed : (setup : Setup) (moment n d : ℕ) (events closed : List Event) → CloseFirst setup moment n events closed → n ≤ d → events_at setup d closed ≡ []
none-closed setup moment zero d events closed h low = ap (events_at setup d) h
none-closed setup moment (suc n) d events closed h low =
    let other : (n == d) ≡ false = grind (arith, nat_tests) in
    ap (events_at setup d) h.4 ∙ filter-append (happens_at setup d) h.0 h.1
    ∙ ap₂ (λ l k. l ++ k) (none-closed setup moment n d events h.0 h.2 (omega (arith, low))) (ap (events_at setup d) h.3.are ∙ pulls-elsewhere setup n d _ h.3.closing other)

drain-closed : (setup : Setup) (moment n d : ℕ) (events closed : List Event) → CloseFirst setup moment n events closed → d < n → HasDrain setup moment d events closed
drain-closed setup moment zero d events closed h low = absurd (omega (arith, low))
drain-closed setup moment (suc n) d events closed h low = by_own (n == d) refl (drain-closed setup moment n d events h.0 h.2)
  where
    parts : events_at setup d closed ≡ events_at setup d h.0 ++ events_at setup d h.1
    parts = ap (events_at setup d) h.4 ∙ filter-append (happens_at setup d) h.0 h.1

    by_own : (b : Bool) → (n == d) ≡ b → (d < n → HasDrain setup moment d events h.0) → HasDrain setup moment d events closed
    by_own true e earlier =
        let same : n ≡ d = grind (arith, nat_tests) in
        let before : events_at setup d (events ++ h.0) ≡ events_at setup d events = filter-append (happens_at setup d) events h.0 ∙ ap (λ l. events_at setup d events ++ l) (none-closed setup moment n d events h.0 h.2 (omega (arith, same))) ∙ append-nil _ in
        let last = subst (λ k. Closes k moment (events_at setup k (events ++ h.0)) h.1) same h.3 in
        record {
          pulls = last.closing;
          are =
              parts ∙ ap (λ l. l ++ events_at setup d h.1) (none-closed setup moment n d events h.0 h.2 (omega (arith, same))) ∙ ap (events_at setup d) last.are ∙ pulls-here setup d _ last.closing
              ∙ ap (λ l. pulls_from d (max (fold max 0 (filter_map moment_in l)) moment + 1) last.closing) before;
        }
    by_own false e earlier =
        let below : d < n = grind (arith, nat_tests, low) in
        let rest = earlier below in
        record { pulls = rest.pulls; are = parts ∙ ap (λ l. events_at setup d h.0 ++ l) (ap (events_at setup d) h.3.are ∙ pulls-elsewhere setup n d _ h.3.closing e) ∙ append-nil _ ∙ rest.are }

-- pulls one tick apart: their commands, and how many there are by the moment of the last
commands-pulled : (d t : ℕ) (pulls : List (List Visit)) → map command_of (pulls_from d t pulls) ≡ pulls_asked d t (length pulls)
commands-pulled d t [] = refl
commands-pulled d t (visits ∷ pulls) = ap (λ l. Pull d t ∷ l) (commands-pulled d (t + 1) pulls)

fold-least : (least : ℕ) (moments : List ℕ) → least ≤ fold max least moments
fold-least least [] = omega arith
fold-least least (m ∷ moments) = let rest = fold-least (max least m) moments in omega (arith, rest)

ticks-between : (before t n : ℕ) → before ≤ t → fold max before (range_with_len (t + 1) n) - t ≡ n
ticks-between before t zero low = omega (arith, low)
ticks-between before t (suc n) low = search (rules, fold-least, (ticks-between (t + 1) (t + 1) n (omega arith)))

fold-append : (before : ℕ) (xs ys : List ℕ) → fold max before (xs ++ ys) ≡ fold max (fold max before xs) ys
fold-append before xs ys = search (rules, common_steps)

none-of : {X : Type 0} (xs : List X) → length xs ≡ 0 → xs ≡ []
none-of [] e = refl
none-of (x ∷ xs) e = absurd (omega (arith, e))

-- What is carried out at a device, where nothing has happened there, of a script that was answered.
module _ (answer : Answer) (old : Course) (d : ℕ) (column : Option ℕ) (can : CanReplay answer old) (rising : AreRising (sender_numbers old.setup)) (fresh : events_of old d ≡ []) (there : d < length old.setup.trees)
    (happened : CanHappen answer.script_router.router.setup answer.script_router.router.events) where
  abbrev pub done : List Event
  done = answer.script_router.router.events

  abbrev pub asked_events : List Event
  asked_events = can.answers.writes.events

  abbrev pub closed_events : List Event
  closed_events = can.answers.writes.closed

  parts : events_at old.setup d done ≡ events_at old.setup d asked_events ++ events_at old.setup d closed_events
  parts = ap (events_at old.setup d) can.answers.events_are ∙ filter-append (happens_at old.setup d) asked_events closed_events

  rows-asked : asked_at old.setup d answer.rows.items ≡ map command_of (events_at old.setup d asked_events)
  rows-asked = commands-there old.setup rising d asked_events answer.rows.items can.answers.rows can.answers.to_do

  its-own : events_of answer.script_router.router d ≡ events_at old.setup d done
  its-own = ap (λ s. events_at s d done) can.answers.setup_is

  -- what was written is a front of the rows, or all of them
  module _ (new : Course) (asked left : List Command) (r : Result (Unit {0}) Fault) (s t : Outgoing) (carried : CarriedOn d old new asked r (HeldOn column s t r))
      (theirs : asked ++ left ≡ map command_of (events_at old.setup d done)) where
    own : events_at old.setup d new.events ≡ carried.more
    own = ap (λ (c : Course). events_at old.setup d c.events) carried.goes_on ∙ events-own old.setup d old.events carried.more carried.here ∙ ap (λ l. l ++ carried.more) fresh

    commands : map command_of (events_at old.setup d new.events) ++ (carried.rest ++ left) ≡ map command_of (events_at old.setup d done)
    commands = ap (λ l. map command_of l ++ (carried.rest ++ left)) own ∙ sym (append_assoc (map command_of carried.more) carried.rest left) ∙ ap (λ l. l ++ left) carried.theirs ∙ theirs

    its : (back : List Event) × (events_at old.setup d new.events ++ back ≡ events_at old.setup d done)
    its =
        can.alike d new.events done (carried.rest ++ left) (subst (λ s. CanHappen s new.events) (ap (λ (c : Course). c.setup) carried.goes_on) carried.can_happen)
        (subst (λ s. CanHappen s done) can.answers.setup_is happened) commands

    whole : carried.more ++ its.0 ≡ events_at old.setup d done
    whole = ap (λ l. l ++ its.0) (sym own) ∙ its.1

    pub rows-written : OnOk r (left ≡ []) → HeldOn column s t r (log_of (events_of answer.script_router.router d))
    rows-written none = subst (λ l. HeldOn column s t r (log_of l)) (sym its-own) (by_result r carried.all none carried.became)
      where
        by_result : (r : Result (Unit {0}) Fault) → OnOk r (carried.rest ≡ []) → OnOk r (left ≡ []) → HeldOn column s t r (log_of carried.more) → HeldOn column s t r (log_of (events_at old.setup d done))
        by_result (Ok x) all none became =
            let same = ap length commands ∙ length-map (events_at old.setup d done) command_of in
            let count = length-append (map command_of (events_at old.setup d new.events)) (carried.rest ++ left) in
            let long = length-map (events_at old.setup d new.events) command_of in
            let nothing : length (carried.rest ++ left) ≡ 0 = ap₂ (λ l k. length (l ++ k)) all none in
            let split = sym (ap length its.1) ∙ length-append (events_at old.setup d new.events) its.0 in
            let back : its.0 ≡ [] = none-of its.0 (omega (arith, same, count, long, nothing, split)) in
            subst (λ l. HeldOn column s t (Ok x) (log_of l)) (sym (append-nil carried.more) ∙ ap (λ l. carried.more ++ l) (sym back) ∙ whole) became
        by_result (Err fault) all none became =
            subst (HeldOn column s t (Err fault)) (sym (flat_map-append visits_in carried.more its.0) ∙ ap log_of whole) (held-cut column s t fault (log_of carried.more) (log_of its.0) became)

  -- the commands of the rows, and those of the drain
  pub left-asked : asked_at old.setup d answer.rows.items ++ map command_of (events_at old.setup d closed_events) ≡ map command_of (events_at old.setup d done)
  left-asked = ap (λ l. l ++ map command_of (events_at old.setup d closed_events)) rows-asked ∙ sym (map-append command_of (events_at old.setup d asked_events) (events_at old.setup d closed_events)) ∙ ap (map command_of) (sym parts)

  pub none-drained : answer.drain ≡ None → asked_at old.setup d answer.rows.items ++ [] ≡ map command_of (events_at old.setup d done)
  none-drained none =
      ap (λ l. asked_at old.setup d answer.rows.items ++ map command_of (events_at old.setup d l)) (sym (subst (λ o. IsClosed old.setup o asked_events closed_events) none can.answers.writes.closes)) ∙ left-asked

  pub all-drained : (moment : ℕ) → answer.drain ≡ Some moment → (mid : Course) (s t : Outgoing) (carried : CarriedOn d old mid (asked_at old.setup d answer.rows.items) (Ok tt) (HeldOn column s t (Ok tt)))
      → (start end : ℕ) → start ≡ max (moment_at mid d) moment → end ≡ moment_at answer.script_router.router d
      → (asked_at old.setup d answer.rows.items ++ pulls_asked d (start + 1) (end - start)) ++ [] ≡ map command_of (events_at old.setup d done)
  all-drained moment some mid s t carried start end from to =
      append-nil _ ∙ ap (λ l. asked_at old.setup d answer.rows.items ++ l) (ap (λ n. pulls_asked d (start + 1) n) count ∙ sym (commands-pulled d (start + 1) drain.pulls) ∙ ap (map command_of) (sym are)) ∙ left-asked
    where
      drain : HasDrain old.setup moment d asked_events closed_events
      drain = drain-closed old.setup moment (length old.setup.trees) d asked_events closed_events (subst (λ o. IsClosed old.setup o asked_events closed_events) some can.answers.writes.closes) there

      before : ℕ
      before = fold max 0 (filter_map moment_in (events_at old.setup d asked_events))

      first : map command_of (events_of mid d) ≡ map command_of (events_at old.setup d asked_events)
      first =
          ap (map command_of) (ap (λ (c : Course). events_of c d) carried.goes_on ∙ events-own old.setup d old.events carried.more carried.here ∙ ap (λ l. l ++ carried.more) fresh)
          ∙ sym (append-nil (map command_of carried.more)) ∙ ap (λ l. map command_of carried.more ++ l) (sym carried.all) ∙ carried.theirs ∙ rows-asked

      start_is : start ≡ max before moment
      start_is = from ∙ ap (λ l. max (fold max 0 l) moment) (moments-asked (events_of mid d) (events_at old.setup d asked_events) first)

      are : events_at old.setup d closed_events ≡ pulls_from d (start + 1) drain.pulls
      are = drain.are ∙ ap (λ n. pulls_from d (n + 1) drain.pulls) (sym start_is)

      end_is : end ≡ fold max before (range_with_len (start + 1) (length drain.pulls))
      end_is =
          to ∙ ap (λ l. fold max 0 (filter_map moment_in l)) (its-own ∙ parts) ∙ ap (fold max 0) (filter_map-append moment_in (events_at old.setup d asked_events) (events_at old.setup d closed_events))
          ∙ fold-append 0 (filter_map moment_in (events_at old.setup d asked_events)) (filter_map moment_in (events_at old.setup d closed_events))
          ∙ ap (fold max before) (ap (filter_map moment_in) are ∙ pulls-moments d (start + 1) drain.pulls)

      count : end - start ≡ length drain.pulls
      count = ap (λ n. n - start) end_is ∙ ticks-between before start (length drain.pulls) (let is = start_is in omega (arith, is))

device_rows-append : (several : Bool) (d : ℕ) (logs others : List (List Visit)) → device_rows several d (logs ++ others) ≡ device_rows several d logs ++ device_rows several (d + length logs) others
device_rows-append several d [] others = let same : d ≡ d + 0 = omega arith in ap (λ n. device_rows several n others) same
device_rows-append several d (log ∷ logs) others = search (rules, append_assoc, (device_rows-append several (d + 1) logs others))

-- they follow the header line
text-device_rows : (logs : List (List Visit)) (several : Bool) → several ≡ nat_lt 1 (length logs) → visits_text logs ≡ header_of several ++ device_rows several 0 logs
text-device_rows [] several e = rw e (sym (append-nil header_text))
text-device_rows (log ∷ []) several e = rw e (ap (λ l. header_text ++ l) (sym (append-nil (rows_text None log))))
text-device_rows (log ∷ other ∷ logs) several e =
    subst (λ b. visits_text (log ∷ other ∷ logs) ≡ header_of b ++ device_rows b 0 (log ∷ other ∷ logs)) (sym (e ∙ many))
    (sym (append_assoc (codes "device,") header_text (devices_text 0 (log ∷ other ∷ logs))) ∙ ap (λ l. (codes "device," ++ header_text) ++ l) (all_rows 0 (log ∷ other ∷ logs)))
  where
    many : nat_lt 1 (length (log ∷ other ∷ logs)) ≡ true
    many = grind (arith, nat_tests)

    all_rows : (d : ℕ) (ls : List (List Visit)) → devices_text d ls ≡ device_rows true d ls
    all_rows d [] = refl
    all_rows d (l ∷ ls) = ap (λ t. rows_text (Some d) l ++ t) (all_rows (d + 1) ls)

-- The rows of the first so many devices.
module _ (its_log : ℕ → List Visit) (n : ℕ) (several : Bool) where
  abbrev pub rows_to : ℕ → List ℕ
  rows_to i = device_rows several 0 (map its_log (range_with_len 0 i))

  rows-more : (i : ℕ) → rows_to i ++ rows_text (column_of several i) (its_log i) ≡ rows_to (i + 1)
  rows-more i =
      let place : 0 + length (map its_log (range_with_len 0 i)) ≡ i = (let long = length-map-range_with_len its_log 0 i in omega (arith, long)) in
      ap (λ l. rows_to i ++ l) (sym (append-nil (rows_text (column_of several i) (its_log i))) ∙ ap (λ k. device_rows several k (its_log i ∷ [])) (sym place))
      ∙ sym (device_rows-append several 0 (map its_log (range_with_len 0 i)) (its_log i ∷ [])) ∙ ap (device_rows several 0) (sym (map-range_with_len_more its_log 0 i i (omega arith)))

  rows-left : (i : ℕ) → i ≤ n → (left : List ℕ) × (rows_to i ++ left ≡ rows_to n)
  rows-left i low = (
    device_rows several (0 + length (map its_log (range_with_len 0 i))) back,
    sym (device_rows-append several 0 (map its_log (range_with_len 0 i)) back) ∙ ap (device_rows several 0) (ap (λ l. l ++ back) (sym (take-map-range_with_len its_log 0 n i low)) ∙ take-append-drop i _),
  )
    where
      back : List (List Visit)
      back = drop i (map its_log (range_with_len 0 n))

  -- a device more was written, or the sink failed in its rows
  pub rows-then : (i : ℕ) (r : Result (Unit {0}) Fault) (a b c : Option (List ℕ)) (f g h : ℕ) → Wrote a b f g (Ok tt) (rows_to i) → Wrote b c g h r (rows_text (column_of several i) (its_log i)) → Wrote a c f h r (rows_to (i + 1))
  rows-then i r a b c f g h so_far more = subst (λ t. Wrote a c f h r t) (rows-more i) (Wrote-then a b c f g h tt r (rows_to i) (rows_text (column_of several i) (its_log i)) so_far more)

  pub rows-cut : (i : ℕ) (fault : Fault) (a b : Option (List ℕ)) (f g : ℕ) → i ≤ n → Wrote a b f g (Err fault) (rows_to i) → Wrote a b f g (Err fault) (rows_to n)
  rows-cut i fault a b f g low failed = let left = rows-left i low in subst (λ t. Wrote a b f g (Err fault) t) left.1 (Wrote-cut a b f g fault (rows_to i) left.0 failed)

  -- the rows of all follow the header line
  pub rows-all : several ≡ nat_lt 1 n → header_of several ++ rows_to n ≡ visits_text (map its_log (range_with_len 0 n))
  rows-all is = sym (text-device_rows (map its_log (range_with_len 0 n)) several (is ∙ ap (nat_lt 1) (sym (length-map-range_with_len its_log 0 n))))

-- a router can replay a script as well as one with its setup
pub replay-still : (answer : Answer) (old new : Course) → new.setup ≡ old.setup → new.keeps ≡ old.keeps → CanReplay answer old → CanReplay answer new
replay-still answer old new setup keeps can =
    record {
      commands = can.commands;
      answers = subst (λ s. Answers s can.commands answer.drain answer) (sym setup) can.answers;
      keeps = keeps ∙ can.keeps;
      few = can.few;
      alike = subst DevicesGoAlike (sym setup) can.alike;
    }

-- A script that was answered over a plan can be carried out again over a router of it.
pub replay-opened : (plan : List Planned) (known : Option (List ℕ)) (answer : Answer) (again : Course) → IsAnswerOver plan known answer → IsOpened plan keeps_latest again
    → ((trees : List Tree) → AreTreesOf plan trees → DevicesGoAlike (plan_setup trees plan)) → CanReplay answer again × (again.events ≡ [])
replay-opened plan known answer again is opened alike = (
  record {
    commands = is.commands;
    answers = subst (λ s. Answers s is.commands answer.drain answer) same is.answers;
    keeps = ap (λ (c : Course). c.keeps) opened.is;
    few = is.few;
    alike = subst DevicesGoAlike same (alike is.trees is.are);
  },
  ap (λ (c : Course). c.events) opened.is,
)
  where
    same : plan_setup is.trees plan ≡ again.setup
    same = ap (λ trees. plan_setup trees plan) (one-trees plan is.trees opened.trees is.are opened.are) ∙ sym (ap (λ (c : Course). c.setup) opened.is)
