-- How the router of a script goes on, and what it can do next.
use Rattle.std.proofs.Common.{◌≡◌, ℕ, ◌+◌, ◌<◌, ◌≤◌, ◌==◌, Bool, true, false, List, [], ◌∷◌, ◌++◌, length, map, filter, max, fold, append-nil, Option, Some, None, refl, sym, ap, ap₂, ◌∙◌, subst, arith, rules}
use Rattle.std.specs.Option.{option_map_or}
use Rattle.std.specs.List.{flat_map, filter_map, range_with_len, AllByRecursion}
use Rattle.std.proofs.lemmas.List.{length-map}
use Rattle.std.proofs.lemmas.List.Concat.{flat_map-append}
use Rattle.std.proofs.lemmas.List.Elements.{filter-append, filter_map-append}
use Rattle.clk_packet.specs.declared.packet.Packet.{Packet}
use Rattle.clk_packet.specs.declared.packet.Offered.{Offered}
use Rattle.clk_packet.specs.Lists.{AreRising}
use Rattle.clk_sched.specs.declared.visit.Visit.{Visit}
use Rattle.clk_sched.specs.declared.session.departures.Departure.{Departure}
use Rattle.clk_sched.specs.Departures.{departure_at, departures_in}
use Rattle.clk_sched.specs.Log.{visits_of, moment_of, result_of}
use Rattle.clk_tree.specs.declared.plan.parts.SenderSpec.{SenderSpec}
use Rattle.clk_tree.specs.PlanParts.{number_of}
use Rattle.clk_router.specs.Accounts.{account_after, account_sender, AreFew}
use Rattle.clk_router.proofs.Callers.Accounts.{accounts-senders}
use Rattle.clk_router.specs.Course.{Course, after, events_of, accepted_at, IsPulled, IsClosed, CanOffer, CanPull, CanClose}
use Rattle.clk_router.specs.Events.{Setup, sender_numbers, Event, offered, pulled, happens_at, events_at, number_from, pull_in, moment_in, accepted_in, evicted_in, CanHappen, pulls_from, Closes}
use Rattle.clk_router.proofs.Callers.Events.{pulls-elsewhere, pulls-add_none}
use Rattle.clk_script.specs.declared.script_router.ScriptRouter.{ScriptRouter}
use Rattle.clk_script.specs.declared.limits.TheConstants.{MAX_LINES, MAX_MOMENT}
use Rattle.clk_script.specs.Meaning.{has_several, command_of, pull_text, closing_text}
use Rattle.clk_script.specs.inside.ScriptRouter.{evicted_kept, AreAlike, IsAt, IsReadable, IsReady, LeadsOnByPull, departure_text, LeadsOnByDrain, StaysElsewhere}
use Rattle.clk_script.proofs.Texts.LengthLemmas.{length-filter-le, length-filter_map-le}

-- whose the accounts are
pub alike-its : (setup : Setup) (events : List Event) (r : ScriptRouter) → AreRising (sender_numbers setup) → IsAt setup events r → AreAlike r
alike-its setup events r rising at = search (rules, accounts-senders)

-- The accounts of a router that went on are few.
few-on : (setup : Setup) (events more : List Event) (old new : ScriptRouter) → IsAt setup events old → new.router ≡ after old.router more → AreFew (map (account_after new.router.events) new.router.setup.senders)
    → AreFew (map (account_after (events ++ more)) setup.senders)
few-on setup events more old new at goes_on few =
    let setup_is : new.router.setup ≡ setup = ap (λ (c : Course). c.setup) goes_on ∙ at.setup_is in
    let events_are : new.router.events ≡ events ++ more = ap (λ (c : Course). c.events) goes_on ∙ ap (λ l. l ++ more) at.events_are in
    subst (λ (l : List Event). AreFew (map (account_after l) setup.senders)) events_are (subst (λ (s : Setup). AreFew (map (account_after new.router.events) s.senders)) setup_is few)

-- A packet more was offered.
pub IsAt-offered : (setup : Setup) (events : List Event) (old new : ScriptRouter) (p : Packet) (outcome : Offered) → IsAt setup events old → new.router ≡ after old.router (offered p outcome ∷ [])
    → CanHappen new.router.setup new.router.events → AreFew (map (account_after new.router.events) new.router.setup.senders)
    → ((before : List Event) (specs : List SenderSpec) → AreFew (map (account_after (before ++ offered p outcome ∷ [])) specs) → old.accounts.items ≡ map (account_after before) specs
    → new.accounts.items ≡ map (account_after (before ++ offered p outcome ∷ [])) specs)
    → new.evicted.items ≡ evicted_kept outcome old.evicted.items → IsAt setup (events ++ offered p outcome ∷ []) new
IsAt-offered setup events old new p outcome at goes_on can few counted evicted =
    let accounts = counted events setup.senders (few-on setup events (offered p outcome ∷ []) old new at goes_on few) at.accounts in search (rules, filter_map-append, append-nil, accounts)

-- A device was pulled once more.
pub LeadsOnByPull-pulled : (setup : Setup) (events : List Event) (old new : ScriptRouter) (d moment : ℕ) (got : Option Packet) → IsAt setup events old → IsPulled old.router new.router d moment got
    → CanHappen new.router.setup new.router.events → AreFew (map (account_after new.router.events) new.router.setup.senders)
    → ((before : List Event) (specs : List SenderSpec) (device t : ℕ) (visits : List Visit) → AreFew (map (account_after (before ++ pulled device t visits ∷ [])) specs) → result_of (visits_of 0 visits) ≡ got
    → old.accounts.items ≡ map (account_after before) specs → new.accounts.items ≡ map (account_after (before ++ pulled device t visits ∷ [])) specs)
    → new.evicted ≡ old.evicted → LeadsOnByPull setup new d moment got events
LeadsOnByPull-pulled setup events old new d moment got at pull can few counted evicted =
    let accounts = counted events setup.senders d moment pull.visits (few-on setup events (pulled d moment pull.visits ∷ []) old new at pull.goes_on few) pull.result at.accounts in
    search (rules, filter_map-append, append-nil, accounts)

-- what came out in closing pulls writes what these pulls do
module _ (several : Bool) (d : ℕ) where
  one-line : (t : ℕ) (got : Option Packet) → option_map_or (λ (p : Packet). pull_text several d t got) got [] ≡ flat_map (departure_text several d) (departure_at t got)
  one-line t None = refl
  one-line t (Some p) = sym (append-nil (departure_text several d (record { moment = t; packet = p })))

  closing-lines : (t : ℕ) (more : List (List Visit)) → map moment_of more ≡ range_with_len t (length more) → flat_map (closing_text several) (pulls_from d t more) ≡ flat_map (departure_text several d) (departures_in more)
  closing-lines t [] e = refl
  closing-lines t (pull ∷ more) e =
      let got = result_of (visits_of 0 pull) in
      let at : moment_of pull ≡ t = cc e in
      let rest : map moment_of more ≡ range_with_len (t + 1) (length more) = cc e in
      ap₂ (λ a b. a ++ b) (one-line t got ∙ ap (λ n. flat_map (departure_text several d) (departure_at n got)) (sym at)) (closing-lines (t + 1) more rest)
      ∙ sym (flat_map-append (departure_text several d) (departure_at (moment_of pull) got) (departures_in more))

-- A device was closed.
module _ (old new : ScriptRouter) (d moment : ℕ) (departures : List Departure) (closed : IsClosed old.router new.router d moment departures) where
  -- which happened there alone
  pub StaysElsewhere-closed : StaysElsewhere d old.router new.router
  StaysElsewhere-closed k other =
      ap (λ (c : Course). events_at c.setup k c.events) closed.goes_on
      ∙ filter-append (happens_at old.router.setup k) old.router.events closed.last
      ∙ ap (λ l. events_of old.router k ++ filter (happens_at old.router.setup k) l) closed.closes.are
      ∙ ap (λ l. events_of old.router k ++ l) (pulls-elsewhere old.router.setup d k _ closed.closes.closing other)
      ∙ append-nil (events_of old.router k)

  module _ (setup : Setup) (events : List Event) (at : IsAt setup events old) (can : CanHappen new.router.setup new.router.events) (few : AreFew (map (account_after new.router.events) new.router.setup.senders))
      (counted : (before : List Event) (specs : List SenderSpec) (device t : ℕ) (pulls : List (List Visit)) → AreFew (map (account_after (before ++ pulls_from device t pulls)) specs) → departures ≡ departures_in pulls
      → old.accounts.items ≡ map (account_after before) specs → new.accounts.items ≡ map (account_after (before ++ pulls_from device t pulls)) specs)
      (evicted : new.evicted ≡ old.evicted) where
    setup_is : new.router.setup ≡ setup
    setup_is = ap (λ (c : Course). c.setup) closed.goes_on ∙ at.setup_is

    events_are : new.router.events ≡ events ++ closed.last
    events_are = ap (λ (c : Course). c.events) closed.goes_on ∙ ap (λ l. l ++ closed.last) at.events_are

    -- what happened there before
    before : events_of old.router d ≡ events_at setup d events
    before = λ i. events_at (at.setup_is i) d (at.events_are i)

    abbrev start : ℕ
    start = max (fold max 0 (filter_map moment_in (events_of old.router d))) moment + 1

    few_closed : AreFew (map (account_after (events ++ pulls_from d start closed.closes.closing)) setup.senders)
    few_closed = subst (λ l. AreFew (map (account_after (events ++ l)) setup.senders)) closed.closes.are (few-on setup events closed.last old new at closed.goes_on few)

    pub LeadsOnByDrain-closed : LeadsOnByDrain setup new d moment events departures
    LeadsOnByDrain-closed =
        record {
          last = closed.last;
          closes = subst (λ l. Closes d moment l closed.last) before closed.closes;
          lines =
              ap (flat_map (closing_text (has_several setup))) closed.closes.are ∙ closing-lines (has_several setup) d start closed.closes.closing closed.moments
              ∙ ap (flat_map (departure_text (has_several setup) d)) (sym closed.emitted);
          leads = record {
            can_happen = subst (λ s. CanHappen s (events ++ closed.last)) setup_is (subst (λ l. CanHappen new.router.setup l) events_are can);
            setup_is = setup_is;
            events_are = events_are;
            accounts =
                counted events setup.senders d start closed.closes.closing few_closed closed.emitted at.accounts
                ∙ ap (λ l. map (account_after (events ++ l)) setup.senders) (sym closed.closes.are);
            evicted =
                ap (λ ps. ps.items) evicted ∙ at.evicted ∙ sym (pulls-add_none evicted_in (λ k n visits. refl) events d start closed.closes.closing)
                ∙ ap (λ l. filter_map evicted_in (events ++ l)) (sym closed.closes.are);
          };
        }

-- the greatest moment that a device's events hand in, if they are of readable commands, is one of a script
readable-moments : (setup : Setup) (d : ℕ) (events : List Event) (before : ℕ) → before ≤ MAX_MOMENT → AllByRecursion IsReadable (map command_of events)
    → fold max before (filter_map moment_in (events_at setup d events)) ≤ MAX_MOMENT
readable-moments setup d [] before h all = h
readable-moments setup d (offered p outcome ∷ events) before h all = by_test (happens_at setup d (offered p outcome)) refl (readable-moments setup d events before h all.1)
  where
    by_test : (b : Bool) → happens_at setup d (offered p outcome) ≡ b → fold max before (filter_map moment_in (events_at setup d events)) ≤ MAX_MOMENT
        → fold max before (filter_map moment_in (events_at setup d (offered p outcome ∷ events))) ≤ MAX_MOMENT
    by_test true e rest = rw e rest
    by_test false e rest = rw e rest
readable-moments setup d (pulled device moment visits ∷ events) before h all =
    by_test (device == d) refl (readable-moments setup d events (max before moment) (let m = all.0 in omega (arith, m, h)) all.1) (readable-moments setup d events before h all.1)
  where
    by_test : (b : Bool) → (device == d) ≡ b → fold max (max before moment) (filter_map moment_in (events_at setup d events)) ≤ MAX_MOMENT → fold max before (filter_map moment_in (events_at setup d events)) ≤ MAX_MOMENT
        → fold max before (filter_map moment_in (events_at setup d (pulled device moment visits ∷ events))) ≤ MAX_MOMENT
    by_test true e counted same = rw e counted
    by_test false e counted same = rw e same

-- What a router that is ready can do next.
module _ (r : ScriptRouter) (ready : IsReady r) where
  few-at : (d : ℕ) → length (events_of r.router d) ≤ MAX_LINES
  few-at d = let some = length-filter-le (happens_at r.router.setup d) r.router.events in let few = ready.few in omega (arith, some, few)

  few-accepted : (d : ℕ) → accepted_at r.router d ≤ MAX_LINES
  few-accepted d = let fewer = length-filter_map-le accepted_in (events_of r.router d) in let few = few-at d in omega (arith, fewer, few)

  few-pulls : (d : ℕ) → length (filter_map pull_in (events_of r.router d)) ≤ MAX_LINES
  few-pulls d = let fewer = length-filter_map-le pull_in (events_of r.router d) in let few = few-at d in omega (arith, fewer, few)

  pub can-offer : (place : ℕ) → place < length r.accounts.items → CanOffer r.router place
  can-offer place within =
      record {
        there =
            let count = sym (length-map r.accounts.items account_sender) ∙ ap length ready.alike.numbers ∙ length-map r.router.setup.senders number_of in
            omega (arith, within, count);
        numbers = λ sender here. let fewer = length-filter_map-le (number_from sender) r.router.events in let few = ready.few in omega (arith, fewer, few);
        packets = λ device its. let few = few-accepted device in omega (arith, few);
      }

  pub can-pull : (d moment : ℕ) → d < length r.router.setup.trees → moment ≤ MAX_MOMENT → CanPull r.router d moment
  can-pull d moment within low = record { there = within; moments = omega (arith, low); pulls = let few = few-pulls d in omega (arith, few) }

  pub can-close : (d moment : ℕ) → d < length r.router.setup.trees → moment ≤ MAX_MOMENT → CanClose r.router d moment
  can-close d moment within low =
      record {
        there = within;
        left = let few = few-accepted d in omega (arith, few);
        moments = let latest = readable-moments r.router.setup d r.router.events 0 (omega arith) ready.readable in omega (arith, latest, low);
        pulls = let few = few-pulls d in omega (arith, few);
      }

-- a device can be closed still where nothing happened at it
pub CanClose-still : (a b : Course) (d moment : ℕ) → b.setup ≡ a.setup → events_of b d ≡ events_of a d → CanClose a d moment → CanClose b d moment
CanClose-still a b d moment setup events can = search rules
