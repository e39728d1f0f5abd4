-- What the rows of some events write.
use Rattle.std.proofs.lemmas.Grind.{common_steps, elements}
use Rattle.std.proofs.Common.{◌≡◌, ℕ, ◌+◌, ◌<◌, ◌≤◌, Bool, true, false, if◌then◌else◌, List, [], ◌∷◌, ◌++◌, drop, get_or, Option, Some, None, MatchOption, slice_get, length, Vec, append-nil, refl, arith, sym, ap, ap₂, subst, ◌∙◌, rules}
use Rattle.std.specs.Bool.{⊤}
use Rattle.std.specs.List.{flat_map, filter_map, AllByRecursion, AllZip}
use Rattle.std.specs.declared.alloc.Global.{Global}
use Rattle.std.proofs.lemmas.List.{drop_more}
use Rattle.std.proofs.lemmas.List.Elements.{filter_map-append}
use Rattle.std.proofs.lemmas.Bool.Decides.{nat_tests}
use Rattle.clk_packet.specs.declared.packet.Packet.{Packet}
use Rattle.clk_packet.specs.declared.packet.Offered.TheVariants.{Accepted, Refused, Evicted}
use Rattle.clk_sched.specs.declared.session.departures.Departure.{Departure}
use Rattle.clk_sched.specs.Log.{visits_of, result_of}
use Rattle.clk_sched.specs.Results.{emitted}
use Rattle.clk_script.specs.declared.rows.ScriptRow.{ScriptRow}
use Rattle.clk_sched.specs.Tree.{Tree}
use Rattle.clk_router.specs.Events.{Setup, Event, offered, pulled, events_at, evicted_in, log_of, IsOfDevice, RunsTree, CanHappen, emitted_in}
use Rattle.clk_router.proofs.Callers.Emitted.{its-given}
use Rattle.clk_script.specs.Meaning.{has_several, offer_text, event_text, pull_text}
use Rattle.clk_script.specs.inside.ScriptRouter.{departure_text}
use Rattle.clk_report.specs.Devices.{lists_of}
use Rattle.clk_script.specs.inside.Rows.{closings_text, row_at, IsRowOf, row_text, rows_text, given_after, fronts_after}

-- rows write the lines of their events, where what these gave and put out comes first
module _ (several : Bool) (given fronts : List Packet) where
  abbrev WriteTheirs : List Event → List ScriptRow → Type 0
  WriteTheirs events rows = rows_text several rows (filter_map emitted_in events ++ given) (filter_map evicted_in events ++ fronts) ≡ flat_map (event_text several) events

  first-line : (place : ℕ) (e : Event) (events : List Event) (rows : List ScriptRow) → WriteTheirs events rows → WriteTheirs (e ∷ events) (row_at place e ∷ rows)
  first-line place (offered p Accepted) events rows rest = ap (λ l. offer_text p Accepted ++ l) rest
  first-line place (offered p (Refused q)) events rows rest = ap (λ l. offer_text p (Refused q) ++ l) rest
  first-line place (offered p (Evicted front)) events rows rest = ap (λ l. offer_text p (Evicted front) ++ l) rest
  first-line place (pulled device moment visits) events rows rest = by_result (result_of (visits_of 0 visits)) refl
    where
      by_result : (o : Option Packet) → result_of (visits_of 0 visits) ≡ o → WriteTheirs (pulled device moment visits ∷ events) (row_at place (pulled device moment visits) ∷ rows)
      by_result None e = rw e (ap (λ l. pull_text several device moment None ++ l) rest)
      by_result (Some p) e = rw e (ap (λ l. pull_text several device moment (Some p) ++ l) rest)

  rows-lines : (events : List Event) (rows : List ScriptRow) → AllZip IsRowOf events rows → WriteTheirs events rows
  rows-lines [] [] are = refl
  rows-lines [] (r ∷ rows) are = absurd are
  rows-lines (e ∷ events) [] are = absurd are
  rows-lines (e ∷ events) (r ∷ rows) are =
      subst (λ (q : ScriptRow). WriteTheirs (e ∷ events) (q ∷ rows)) (sym are.0.1) (first-line are.0.0 e events rows (rows-lines events rows are.1))

-- what came out at the first device is what its pulls gave
first-emitted : (trees : List Tree) (events : List Event) → 1 ≤ length trees → MatchOption (slice_get trees 0) ⊤ (λ t. RunsTree t events) → emitted (log_of events) ≡ filter_map emitted_in events
first-emitted trees events some runs = grind (arith, common_steps, elements, nat_tests, its-given)

-- where there is one device, all pulls are its own
given-alone : (setup : Setup) (events : List Event) → AllByRecursion (IsOfDevice 1) events → filter_map emitted_in (events_at setup 0 events) ≡ filter_map emitted_in events
given-alone setup [] all = refl
given-alone setup (offered p outcome ∷ events) all = search (rules, (given-alone setup events all.1))
given-alone setup (pulled d moment visits ∷ events) all = search (rules, (given-alone setup events all.1))

-- What the rows of events write, where a router has gone on since, and what the pulls gave was kept where there are several devices.
pub rows-written : (setup : Setup) (events later : List Event) (rows : List ScriptRow) (kept fronts : List Packet) → AllZip IsRowOf events rows → 1 ≤ length setup.trees → CanHappen setup (events ++ later)
    → fronts ≡ filter_map evicted_in (events ++ later) → (has_several setup ≡ true → kept ≡ filter_map emitted_in events)
    → rows_text (has_several setup) rows (if has_several setup then kept else emitted (log_of (events_at setup 0 (events ++ later)))) fronts ≡ flat_map (event_text (has_several setup)) events
rows-written setup events later rows kept fronts are some can out is = by_several (has_several setup) refl
  where
    all : List Event
    all = events ++ later

    these : fronts ≡ filter_map evicted_in events ++ filter_map evicted_in later
    these = out ∙ filter_map-append evicted_in events later

    by_several : (b : Bool) → has_several setup ≡ b → rows_text b rows (if b then kept else emitted (log_of (events_at setup 0 all))) fronts ≡ flat_map (event_text b) events
    by_several true e = ap₂ (rows_text true rows) (is e ∙ sym (append-nil (filter_map emitted_in events))) these ∙ rows-lines true [] (filter_map evicted_in later) events rows are
    by_several false e =
        let one : length setup.trees ≡ 1 = grind (arith, nat_tests) in
        let given = first-emitted setup.trees (events_at setup 0 all) some (can.runs 0) ∙ given-alone setup all (subst (λ n. AllByRecursion (IsOfDevice n) all) one can.devices) ∙ filter_map-append emitted_in events later in
        ap₂ (rows_text false rows) given these ∙ rows-lines false (filter_map emitted_in later) (filter_map evicted_in later) events rows are

-- the line of the row at a place, and those after it
pub rows-left : (several : Bool) (rows : List ScriptRow) (i : ℕ) (r : ScriptRow) (given fronts : List Packet) → i < length rows → r ≡ get_or rows i r
    → rows_text several (drop i rows) given fronts ≡ row_text several r given fronts ++ rows_text several (drop (i + 1) rows) (given_after r given) (fronts_after r fronts)
rows-left several rows i r given fronts within is = search (rules, drop_more)

-- the closing of the first of some devices, and those after it
pub closings-first : (several : Bool) (device : ℕ) (closings : List (Vec Departure Global)) (first : Vec Departure Global) → 1 ≤ length closings → first ≡ get_or closings 0 first
    → closings_text several device (lists_of closings) ≡ flat_map (departure_text several device) first.items ++ closings_text several (device + 1) (lists_of (drop 1 closings))
closings-first several device closings first some is = search rules
