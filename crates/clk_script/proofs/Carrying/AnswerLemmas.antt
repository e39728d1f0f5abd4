-- How a router goes on by the commands of some rows, and what it comes to.
use Rattle.std.proofs.Common.{◌≡◌, ℕ, ◌+◌, ◌<◌, ◌≤◌, true, if◌then◌else◌, List, [], ◌∷◌, ◌++◌, length, map, take, drop, set, get_or, Option, Some, None, IfSome, Vec, refl, sym, ap, ap₂, subst, ◌∙◌, append_assoc, append-nil, arith, rules}
use Rattle.std.specs.List.{flat_map, filter_map, AllByRecursion, AllZip}
use Rattle.std.specs.declared.alloc.Global.{Global}
use Rattle.std.proofs.lemmas.List.{map-append, length-map, length-take, length-set, take-append-drop, take_more, take_more_set, drop_more, drop-set-lt}
use Rattle.std.proofs.lemmas.List.Elements.{filter_map-append}
use Rattle.std.proofs.lemmas.Grind.{drop_more_same, common_steps}
use Rattle.clk_report.specs.Devices.{lists_of}
use Rattle.clk_router.specs.Accounts.{account_after}
use Rattle.clk_script.specs.AccountLines.{account_line}
use Rattle.clk_sched.specs.declared.session.departures.Departure.{Departure}
use Rattle.clk_sched.specs.Results.{emitted}
use Rattle.clk_script.specs.declared.rows.ScriptRow.{ScriptRow}
use Rattle.clk_script.specs.declared.script_router.ScriptRouter.{ScriptRouter}
use Rattle.clk_script.specs.Script.{Names}
use Rattle.clk_script.specs.declared.limits.TheConstants.{MAX_LINES}
use Rattle.clk_router.specs.Events.{Setup, Event, events_at, log_of, logs_of, emitted_in}
use Rattle.clk_router.proofs.Callers.Events.{all-join}
use Rattle.clk_script.specs.Meaning.{names_of, has_several, command_of, event_text, ending_text, CloseFirst}
use Rattle.clk_script.specs.inside.ScriptRouter.{names_in, IsAt, Starts, IsReady, IsReadable}
use Rattle.clk_script.specs.inside.Rows.{command_asked, asked_by, IsRowOf, IsToDo, CarriesOut, Answers, AnswersRows, IsClosedFrom, rows_text, closings_text, closings_of, given_of}
use Rattle.clk_script.proofs.Carrying.RowLemmas.{rows-written}
use Rattle.clk_script.proofs.Carrying.ScriptRouterLemmas.{alike-its}

-- the commands of rows that are to be carried out are readable
row-readable : (names : Names) (r : ScriptRow) → IsToDo names r → IsReadable (command_asked r)
row-readable names r h = search rules

each-readable : (names : Names) (rows : List ScriptRow) → AllByRecursion (IsToDo names) rows → AllByRecursion IsReadable (asked_by rows)
each-readable names [] h = tt
each-readable names (r ∷ rows) h = (row-readable names r h.0, each-readable names rows h.1)

-- rows after others, which are of events after others
rows-appended : (events more : List Event) (rows others : List ScriptRow) → AllZip IsRowOf events rows → AllZip IsRowOf more others → AllZip IsRowOf (events ++ more) (rows ++ others)
rows-appended [] more [] others h k = k
rows-appended [] more (r ∷ rows) others h k = absurd h
rows-appended (e ∷ events) more [] others h k = absurd h
rows-appended (e ∷ events) more (r ∷ rows) others h k = (h.0, rows-appended events more rows others h.1 k)

-- Some rows were carried out after others.
pub AnswersRows-then : (a b c : ScriptRouter) (asked done later rows : List ScriptRow) → AnswersRows a b asked done → AnswersRows b c later rows → AnswersRows a c (asked ++ later) (done ++ rows)
AnswersRows-then a b c asked done later rows first next = search (rules, map-append, rows-appended, all-join, append_assoc, filter_map-append)

-- what a script may name over a router is what it may name over its setup
pub names-its : (setup : Setup) (events : List Event) (router : ScriptRouter) → IsAt setup events router → names_in router ≡ names_of setup
names-its setup events router at = ap names_of at.setup_is

-- A router over which some rows were carried out can carry out more, and what a script may name over it is as before.
pub IsReady-answered : (setup : Setup) (old new : ScriptRouter) (asked done : List ScriptRow) → Starts setup old → AllByRecursion (IsToDo (names_in old)) asked → length asked ≤ MAX_LINES → AnswersRows old new asked done
    → IsReady new × (names_in new ≡ names_in old)
IsReady-answered setup old new asked done starts to_do few answers =
    let carried = answers setup [] starts.leads in
    let at = carried.leads in
    let count : length asked ≡ length carried.more = sym (length-map asked command_asked) ∙ ap length carried.theirs ∙ length-map carried.more command_of in
    let readable = subst (AllByRecursion IsReadable) carried.theirs (each-readable (names_in old) asked to_do) in (
      record {
        few = subst (λ l. length l ≤ MAX_LINES) (sym at.events_are) (omega (arith, count, few));
        readable = subst (λ l. AllByRecursion IsReadable (map command_of l)) (sym at.events_are) readable;
        alike = alike-its setup carried.more new starts.rising at;
      },
      names-its setup carried.more new at ∙ sym (names-its setup [] old starts.leads),
    )

-- what holds of each holds of those in front, and of the one at a place
all-front : {X : Type 0} (P : X → Type 0) (xs ys : List X) → AllByRecursion P (xs ++ ys) → AllByRecursion P xs
all-front P [] ys h = tt
all-front P (x ∷ xs) ys h = (h.0, all-front P xs ys h.1)

pub all-at : {X : Type 0} (P : X → Type 0) (xs : List X) (i : ℕ) (d : X) → i < length xs → AllByRecursion P xs → P (get_or xs i d)
all-at P xs i d within h = search (rules, common_steps)

-- The rows before a place are carried out, and the others are as they were.
pub record IsCarriedTo (old new : ScriptRouter) (asked rows : List ScriptRow) (i : ℕ) : Type 0 where
  pub within : i ≤ length rows
  pub count : length rows ≡ length asked
  pub left : drop i rows ≡ drop i asked
  pub answers : AnswersRows old new (take i asked) (take i rows)

-- the row at the place is the one that was asked for
still-asked : (asked rows : List ScriptRow) (i : ℕ) (row : ScriptRow) → i < length rows → length rows ≡ length asked → drop i rows ≡ drop i asked → row ≡ get_or rows i row → get_or asked i row ≡ row
still-asked asked rows i row within count left is = search (rules, drop_more)

pub IsCarriedTo-ready : (setup : Setup) (old new : ScriptRouter) (asked rows : List ScriptRow) (i : ℕ) (row : ScriptRow) → Starts setup old → AllByRecursion (IsToDo (names_in old)) asked → length asked ≤ MAX_LINES
    → IsCarriedTo old new asked rows i → i < length rows → row ≡ get_or rows i row → IsReady new × IsToDo (names_in new) row
IsCarriedTo-ready setup old new asked rows i row starts to_do few carried within is =
    let front = all-front (IsToDo (names_in old)) (take i asked) (drop i asked) (subst (AllByRecursion (IsToDo (names_in old))) (sym (take-append-drop i asked)) to_do) in
    let shorter = length-take i asked in
    let ready = IsReady-answered setup old new (take i asked) (take i rows) starts front (omega (arith, shorter, few)) carried.answers in
    let inside : i < length asked = let count = carried.count in omega (arith, within, count) in
    let here = subst (IsToDo (names_in old)) (still-asked asked rows i row within carried.count carried.left is) (all-at (IsToDo (names_in old)) asked i row inside to_do) in
    (ready.0, subst (λ names. IsToDo names row) (sym ready.1) here)

pub IsCarriedTo-more : (old mid new : ScriptRouter) (asked rows : List ScriptRow) (i : ℕ) (row done : ScriptRow) → IsCarriedTo old mid asked rows i → i < length rows → row ≡ get_or rows i row → AnswersRows mid new (row ∷ []) (done ∷ [])
    → IsCarriedTo old new asked (set rows i done) (i + 1)
IsCarriedTo-more old mid new asked rows i row done carried within is answers =
    record {
      within = let long = length-set rows i done in omega (arith, within, long);
      count = length-set rows i done ∙ carried.count;
      left = drop-set-lt (i + 1) rows i done (omega arith) ∙ drop_more_same rows asked i carried.left;
      answers =
          subst (λ l. AnswersRows old new l (take (i + 1) (set rows i done))) (sym (take_more asked i row inside ∙ ap (λ r. take i asked ++ r ∷ []) (still-asked asked rows i row within carried.count carried.left is)))
          (subst (λ l. AnswersRows old new (take i asked ++ row ∷ []) l) (sym (take_more_set rows i done within))
          (AnswersRows-then old mid new (take i asked) (take i rows) (row ∷ []) (done ∷ []) carried.answers answers));
    }
  where
    inside : i < length asked
    inside = let count = carried.count in omega (arith, within, count)

-- A router over which all commands of a script were carried out, from what was kept of it, and what was kept when it ended.
module _ (setup : Setup) (old mid : ScriptRouter) (asked done : List ScriptRow) (starts : Starts setup old) (answers : AnswersRows old mid asked done) where
  carried : CarriesOut setup old mid asked done []
  carried = answers setup [] starts.leads

  -- the pulls' packets that were kept, where there are several devices
  kept : has_several setup ≡ true → mid.given.items ≡ filter_map emitted_in carried.more
  kept several = carried.given several ∙ ap (λ l. l ++ filter_map emitted_in carried.more) starts.given

  -- what a router that went on with these events did
  module _ (new : ScriptRouter) (later : List Event) (at : IsAt setup (carried.more ++ later) new) (given : new.given ≡ mid.given) where
    -- the lines of the commands, whatever the router did later
    lines : rows_text (has_several new.router.setup) done (given_of new) new.evicted.items ≡ flat_map (event_text (has_several setup)) carried.more
    lines =
        (λ i. rows_text (has_several (at.setup_is i)) done (if has_several (at.setup_is i) then new.given.items else emitted (log_of (events_at (at.setup_is i) 0 (at.events_are i)))) new.evicted.items)
        ∙ rows-written setup carried.more later done new.given.items new.evicted.items carried.rows starts.some at.can_happen at.evicted (λ many. ap (λ ps. ps.items) given ∙ kept many)

    report : flat_map account_line (map (account_after new.router.events) new.router.setup.senders) ≡ ending_text new.router.setup (Some 0) new.router.events
        → flat_map account_line new.accounts.items ≡ ending_text setup (Some 0) (carried.more ++ later)
    report tells =
        ap (flat_map account_line) (at.accounts ∙ (λ i. map (account_after (sym at.events_are i)) (sym at.setup_is i).senders)) ∙ tells
        ∙ (λ i. ending_text (at.setup_is i) (Some 0) (at.events_are i))

  -- What it comes to, without a closing and with one.
  module _ (new : ScriptRouter) (tells : flat_map account_line (map (account_after new.router.events) new.router.setup.senders) ≡ ending_text new.router.setup (Some 0) new.router.events) (rows : Vec ScriptRow Global)
      (are : rows.items ≡ done) where
    all_lines : (later : List Event) → IsAt setup (carried.more ++ later) new → new.given ≡ mid.given
        → rows_text (has_several new.router.setup) rows.items (given_of new) new.evicted.items ≡ flat_map (event_text (has_several setup)) carried.more
    all_lines later at given = ap (λ rs. rows_text (has_several new.router.setup) rs (given_of new) new.evicted.items) are ∙ lines new later at given

    its_logs : (later : List Event) → IsAt setup (carried.more ++ later) new → logs_of setup new.router.events ≡ logs_of setup (carried.more ++ later)
    its_logs later at = ap (logs_of setup) at.events_are

    pub Answers-all : (drain : Option ℕ) (closing : Option (Vec (Vec Departure Global) Global)) → IsClosedFrom mid new drain (closings_of closing)
        → Answers setup (asked_by asked) drain (record { rows = rows; drain = drain; closing = closing; script_router = new })
    Answers-all None None closed =
        let at : IsAt setup (carried.more ++ []) new = subst (λ l. IsAt setup l new) (sym (append-nil carried.more)) (subst (λ (r : ScriptRouter). IsAt setup carried.more r) (sym closed) carried.leads) in
        record {
          writes = record {
            events = carried.more;
            theirs = sym carried.theirs;
            closed = [];
            closes = refl;
            can_happen = at.can_happen;
            lines = ap (λ l. l ++ []) (all_lines [] at (ap (λ (r : ScriptRouter). r.given) closed));
            logged = its_logs [] at;
          };
          setup_is = at.setup_is;
          events_are = at.events_are;
          rows = subst (AllZip IsRowOf carried.more) (sym are) carried.rows;
          to_do = subst (AllByRecursion (IsToDo (names_of setup))) (sym are) carried.to_do;
        }
    Answers-all None (Some closings) closed = absurd closed
    Answers-all (Some moment) None closed = absurd closed
    Answers-all (Some moment) (Some closings) closed =
        let closes = closed.closes setup carried.more carried.leads in
        let at = closes.closing.leads in
        let later = closes.closing.closed in
        record {
          writes = record {
            events = carried.more;
            theirs = sym carried.theirs;
            closed = later;
            closes = subst (λ n. CloseFirst setup moment n carried.more later) (ap (λ (s : Setup). length s.trees) carried.leads.setup_is) closes.closing.closes;
            can_happen = at.can_happen;
            lines =
                ap₂ (λ a b. a ++ b) (all_lines later at closed.given)
                (ap₂ (λ a b. a ++ b) (ap (λ s. closings_text (has_several s) 0 (lists_of closings.items)) at.setup_is ∙ sym closes.lines) (report new later at closed.given tells));
            logged = its_logs later at;
          };
          setup_is = at.setup_is;
          events_are = at.events_are;
          rows = subst (AllZip IsRowOf carried.more) (sym are) carried.rows;
          to_do = subst (AllByRecursion (IsToDo (names_of setup))) (sym are) carried.to_do;
        }

-- Whatever was carried out and closed, a router has its devices, and keeps what it did.
module _ (setup : Setup) (old mid : ScriptRouter) (asked done : List ScriptRow) (starts : Starts setup old) (answers : AnswersRows old mid asked done) where
  carried_to : CarriesOut setup old mid asked done []
  carried_to = answers setup [] starts.leads

  same_setup : mid.router.setup ≡ old.router.setup
  same_setup = carried_to.leads.setup_is ∙ sym starts.leads.setup_is

  pub closings-kept : (new : ScriptRouter) (drain : Option ℕ) (closings : Option (Vec (Vec Departure Global) Global)) → IsClosedFrom mid new drain (closings_of closings) → IfSome closings (λ cs. length cs.items ≡ length old.router.setup.trees)
  closings-kept new drain None closed = tt
  closings-kept new None (Some closings) closed = absurd closed
  closings-kept new (Some moment) (Some closings) closed = sym (length-map closings.items (λ l. l.items)) ∙ closed.closings_count ∙ ap (λ (s : Setup). length s.trees) same_setup
