-- What carrying out commands of a script again at a device comes to: of one command, of rows, and of pulls one tick apart.
use Rattle.std.proofs.lemmas.Grind.{common_steps}
use Rattle.std.proofs.Common.{◌≡◌, ◌≢◌, ℕ, zero, suc, ◌+◌, ◌-◌, ◌<◌, ◌≤◌, ◌==◌, ◌&&◌, ◌||◌, Bool, true, false, if◌then◌else◌, List, [], ◌∷◌, ◌++◌, length, map, filter, take, drop, get_or, OnOk, Option, Some, None, Result, Ok, Err, slice_get, refl, sym, ap, ap₂, ◌∙◌, subst, append_assoc, append-nil, arith, rules}
use Rattle.std.specs.List.{list_any, AllByRecursion, AllZip}
use Rattle.std.specs.Option.{option_map}
use Rattle.std.proofs.lemmas.Bool.{false≢true}
use Rattle.std.proofs.lemmas.Bool.Decides.{nat_tests}
use Rattle.std.proofs.lemmas.List.{map-append, length-map, length-append, length-take, reverse-append, take_all, take_more, take-append-drop}
use Rattle.std.proofs.lemmas.List.Concat.{flat_map-append}
use Rattle.std.proofs.lemmas.List.FromFn.{length-map-range_with_len, map-range_with_len_more, take-map-range_with_len}
use Rattle.std.proofs.lemmas.List.Elements.{filter-append, filter_map-append}
use Rattle.std.proofs.lemmas.Option.{slice_get-map, slice_get_within}
use Rattle.clk_packet.specs.declared.fault.Fault.{Fault}
use Rattle.clk_packet.specs.declared.packet.Packet.{Packet}
use Rattle.clk_packet.specs.declared.packet.Offered.{Offered}
use Rattle.clk_packet.specs.Lists.{AreRising}
use Rattle.clk_sched.specs.declared.visit.Visit.{Visit}
use Rattle.clk_sched.specs.Keeps.{keeps_latest}
use Rattle.clk_sched.specs.declared.limits.TheConstants.{END_OF_MOMENTS}
use Rattle.clk_tree.specs.declared.plan.parts.SenderSpec.{SenderSpec}
use Rattle.clk_tree.specs.PlanParts.{number_of}
use Rattle.clk_router.specs.Course.{Course, after, events_of, latest_visits, room_device, its_device, device_at, sender_at, CanOffer, CanPull}
use Rattle.clk_router.specs.Events.{Room, Setup, sender_numbers, Event, offered, pulled, is_of_device, happens_at, events_at, number_from, visits_in, pull_in, accepted_in, log_of, CanHappen}
use Rattle.clk_router.proofs.Callers.Plans.{is_at}
use Rattle.clk_router.specs.Settled.{sends_at}
use Rattle.clk_router.proofs.Callers.Apart.{none-later, one-sender, numbers-at}
use Rattle.clk_router.proofs.Callers.Events.{all-join}
use Rattle.clk_script.specs.declared.rows.ScriptRow.{ScriptRow}
use Rattle.clk_script.specs.declared.rows.ScriptRow.TheVariants as row
use Rattle.clk_script.specs.declared.script.Command.{Command}
use Rattle.clk_script.specs.declared.script.Command.TheVariants.{Send, Pull}
use Rattle.clk_script.specs.Meaning.{names_of, command_of}
use Rattle.clk_script.specs.declared.rows.Fate.{Fate}
use Rattle.clk_script.specs.declared.limits.TheConstants.{MAX_LINES, MAX_MOMENT}
use Rattle.clk_script.specs.inside.Rows.{command_asked, asked_by, row_at, IsRowOf, IsToDo}
use Rattle.clk_script.specs.inside.Replay.{is_row_at, asked_at, pulls_asked, CarriedOn, Outgoing, HeldOn}
use Rattle.clk_script.proofs.Carrying.AnswerLemmas.{all-at}
use Rattle.clk_script.proofs.Texts.LengthLemmas.{length-filter-le, length-filter_map-le}
use Rattle.clk_script.proofs.Carrying.HeldLemmas.{held-none, held-then}
use Rattle.clk_sched.proofs.Callers.Lists.{is_number}

-- what happens at a device after events that happen there
pub events-own : (setup : Setup) (d : ℕ) (before more : List Event) → AllByRecursion (λ e. happens_at setup d e ≡ true) more → events_at setup d (before ++ more) ≡ events_at setup d before ++ more
events-own setup d before more here = filter-append (happens_at setup d) before more ∙ ap (λ l. events_at setup d before ++ l) (all_own more here)
  where
    all_own : (es : List Event) → AllByRecursion (λ e. happens_at setup d e ≡ true) es → events_at setup d es ≡ es
    all_own [] h = refl
    all_own (e ∷ es) h = rw h.0 (ap (λ l. e ∷ l) (all_own es h.1))

-- an event happens at one device
one-device : (setup : Setup) → AreRising (sender_numbers setup) → (d k : ℕ) (e : Event) → (d == k) ≡ false → happens_at setup d e ≡ true → happens_at setup k e ≡ false
one-device setup rising d k (pulled device moment visits) other here = search (rules, false≢true, one-sender)
one-device setup rising d k (offered p outcome) other here = by_there (happens_at setup k (offered p outcome)) refl
  where
    at-one : (o : Option Room) → is_at d o ≡ true → is_at k o ≡ true → ⊥
    at-one o a b = search (rules, false≢true, one-sender)

    by_there : (b : Bool) → happens_at setup k (offered p outcome) ≡ b → b ≡ false
    by_there false e = refl
    by_there true e = let x = one-sender setup.senders p.sender (is_of_device setup.queues d) (is_of_device setup.queues k) rising here e in absurd (at-one (slice_get setup.queues x.0.queue) x.1 x.2)

pub events-others : (setup : Setup) → AreRising (sender_numbers setup) → (d k : ℕ) (before more : List Event) → (d == k) ≡ false → AllByRecursion (λ e. happens_at setup d e ≡ true) more
    → events_at setup k (before ++ more) ≡ events_at setup k before
events-others setup rising d k before more other here = filter-append (happens_at setup k) before more ∙ ap (λ l. events_at setup k before ++ l) (none more here) ∙ append-nil (events_at setup k before)
  where
    none : (es : List Event) → AllByRecursion (λ e. happens_at setup d e ≡ true) es → events_at setup k es ≡ []
    none [] h = refl
    none (e ∷ es) h = rw (one-device setup rising d k e other h.0) (none es h.1)

-- Nothing was carried out, and some was after some.
pub carried-none : (d : ℕ) (column : Option ℕ) (c : Course) (asked : List Command) (x : Unit {0}) (s : Outgoing) → asked ≡ [] → CanHappen c.setup c.events → CarriedOn d c c asked (Ok x) (HeldOn column s s (Ok x))
carried-none d column c asked x s none can = search (rules, append-nil, held-none)

pub carried-then : (d : ℕ) (column : Option ℕ) (old mid new : Course) (first second : List Command) (x : Unit {0}) (r : Result (Unit {0}) Fault) (s t u : Outgoing)
    → CarriedOn d old mid first (Ok x) (HeldOn column s t (Ok x)) → CarriedOn d mid new second r (HeldOn column t u r) → CarriedOn d old new (first ++ second) r (HeldOn column s u r)
carried-then d column old mid new first second x r s t u one two =
    record {
      more = one.more ++ two.more;
      goes_on = two.goes_on ∙ ap (λ (k : Course). after k two.more) one.goes_on ∙ ap (λ l. record { setup = old.setup; events = l; keeps = old.keeps }) (append_assoc old.events one.more two.more);
      here = all-join (λ e. happens_at old.setup d e ≡ true) one.more two.more one.here (subst (λ (k : Course). AllByRecursion (λ e. happens_at k.setup d e ≡ true) two.more) one.goes_on two.here);
      rest = two.rest;
      theirs =
          ap (λ l. l ++ two.rest) (map-append command_of one.more two.more) ∙ append_assoc (map command_of one.more) (map command_of two.more) two.rest
          ∙ ap₂ (λ l k. l ++ k) (sym (append-nil (map command_of one.more)) ∙ ap (λ l. map command_of one.more ++ l) (sym one.all) ∙ one.theirs) two.theirs;
      all = two.all;
      can_happen = two.can_happen;
      became = subst (HeldOn column s u r) (sym (flat_map-append visits_in one.more two.more)) (held-then column s t u x r (log_of one.more) (log_of two.more) one.became two.became);
    }

-- Where the sink failed, more was asked for.
pub carried-cut : (d : ℕ) (old new : Course) (asked later : List Command) (fault : Fault) (W : List Visit → Type 0) → CarriedOn d old new asked (Err fault) W → CarriedOn d old new (asked ++ later) (Err fault) W
carried-cut d old new asked later fault W h = search (rules, append_assoc)

-- so many events were carried out as were asked for at most
pub few-carried : (d : ℕ) (old new : Course) (asked : List Command) (r : Result (Unit {0}) Fault) (W : List Visit → Type 0) → CarriedOn d old new asked r W
    → length (events_of new d) ≤ length (events_of old d) + length asked
few-carried d old new asked r W h =
    let own = ap (λ (k : Course). length (events_of k d)) h.goes_on ∙ ap length (events-own old.setup d old.events h.more h.here) ∙ length-append (events_of old d) h.more in
    let all = sym (ap length h.theirs) ∙ length-append (map command_of h.more) h.rest in
    let same = length-map h.more command_of in
    omega (arith, own, all, same)

-- the sender at a place, and what only senders of its number are asked
any-at : (senders : List SenderSpec) (place : ℕ) (x : SenderSpec) (P : SenderSpec → Bool) → AreRising (map number_of senders) → slice_get senders place ≡ Some x → list_any (λ (y : SenderSpec). (y.number == x.number) && P y) senders ≡ P x
any-at [] place x P rising at = absurd (cc)
any-at (y ∷ senders) zero x P rising at =
    let same : y ≡ x = cc in
    subst (λ (z : SenderSpec). list_any (λ (w : SenderSpec). (w.number == z.number) && P w) (y ∷ senders) ≡ P z) same
    (let own : (y.number == y.number) ≡ true = grind (arith, nat_tests) in rw (own, none-later senders y.number y.number P refl rising.0) (or-false (P y)))
  where
    or-false : (b : Bool) → (b || false) ≡ b
    or-false b = search (rules, none-later)
any-at (y ∷ senders) (suc place) x P rising at =
    let later : y.number < x.number = above senders place x rising.0 at in
    let other : (y.number == x.number) ≡ false = grind (arith, nat_tests) in
    rw other (any-at senders place x P rising.1 at)
  where
    above : (xs : List SenderSpec) (i : ℕ) (z : SenderSpec) → AllByRecursion (λ n. y.number < n) (map number_of xs) → slice_get xs i ≡ Some z → y.number < z.number
    above [] i z h e = absurd (cc)
    above (w ∷ xs) zero z h e = let same : w ≡ z = cc in subst (λ (v : SenderSpec). y.number < v.number) same h.0
    above (w ∷ xs) (suc i) z h e = above xs i z h.1 e

-- a sender sends to a device exactly if its place does
pub sends-as-place : (setup : Setup) → AreRising (sender_numbers setup) → (d place s : ℕ) → sender_at setup place ≡ Some s → sends_at setup d s ≡ is_number d (device_at setup place)
sends-as-place setup rising d place s at = by_sender (slice_get setup.senders place) refl
  where
    by_room : (o : Option Room) → is_at d o ≡ is_number d (option_map room_device o)
    by_room o = search (rules, slice_get-map, any-at)

    by_sender : (o : Option SenderSpec) → slice_get setup.senders place ≡ o → sends_at setup d s ≡ is_number d (its_device setup.queues o)
    by_sender None e = absurd (let none = slice_get-map number_of setup.senders place ∙ ap (option_map number_of) e in cc (none, at))
    by_sender (Some x) e =
        let own : x.number ≡ s = let is = slice_get-map number_of setup.senders place ∙ ap (option_map number_of) e in cc (is, at) in
        ap (sends_at setup d) (sym own) ∙ any-at setup.senders place x (is_of_device setup.queues d) rising e ∙ by_room (slice_get setup.queues x.queue)

-- the commands of rows at a device are those of their events there
pub commands-there : (setup : Setup) → AreRising (sender_numbers setup) → (d : ℕ) (events : List Event) (rows : List ScriptRow) → AllZip IsRowOf events rows → AllByRecursion (IsToDo (names_of setup)) rows
    → asked_at setup d rows ≡ map command_of (events_at setup d events)
commands-there setup rising d [] [] are to_do = refl
commands-there setup rising d [] (r ∷ rows) are to_do = absurd are
commands-there setup rising d (e ∷ events) [] are to_do = absurd are
commands-there setup rising d (e ∷ events) (r ∷ rows) are to_do =
    subst (λ q. asked_at setup d (q ∷ rows) ≡ map command_of (events_at setup d (e ∷ events))) (sym are.0.1) (first are.0.0 e (subst (IsToDo (names_of setup)) are.0.1 to_do.0) (commands-there setup rising d events rows are.1 to_do.1))
  where
    by_test : (b c : Bool) (q : ScriptRow) (f : Event) → c ≡ b → command_asked q ≡ command_of f → asked_at setup d rows ≡ map command_of (events_at setup d events)
        → asked_by (if b then q ∷ filter (is_row_at setup d) rows else filter (is_row_at setup d) rows) ≡ map command_of (if c then f ∷ events_at setup d events else events_at setup d events)
    by_test b c q f same commands rest = search (rules, sends-as-place)

    first : (place : ℕ) (f : Event) → IsToDo (names_of setup) (row_at place f) → asked_at setup d rows ≡ map command_of (events_at setup d events)
        → asked_at setup d (row_at place f ∷ rows) ≡ map command_of (events_at setup d (f ∷ events))
    first place (offered p outcome) can rest = by_test (is_number d (device_at setup place)) (happens_at setup d (offered p outcome)) (row_at place (offered p outcome)) (offered p outcome) (sends-as-place setup rising d place p.sender can) refl rest
    first place (pulled device moment visits) can rest = by_test (device == d) (device == d) (row_at place (pulled device moment visits)) (pulled device moment visits) refl refl rest

pub asked-append : (setup : Setup) (d : ℕ) (rows others : List ScriptRow) → asked_at setup d (rows ++ others) ≡ asked_at setup d rows ++ asked_at setup d others
asked-append setup d rows others = ap asked_by (filter-append (is_row_at setup d) rows others) ∙ map-append command_asked (filter (is_row_at setup d) rows) (filter (is_row_at setup d) others)

-- a sender of a device can offer where few events happened there
pub can-offer-there : (c : Course) → AreRising (sender_numbers c.setup) → (d place s : ℕ) → sender_at c.setup place ≡ Some s → device_at c.setup place ≡ Some d → length (events_of c d) ≤ MAX_LINES → CanOffer c place
can-offer-there c rising d place s at its few =
    record {
      there = let low = slice_get_within (sender_numbers c.setup) place s at in let same = length-map c.setup.senders number_of in omega (arith, low, same);
      numbers = λ sender here.
          let sends : sends_at c.setup d sender ≡ true = sends-as-place c.setup rising d place sender here ∙ ap (is_number d) its ∙ (let own : (d == d) ≡ true = grind (arith, nat_tests) in own) in
          let own = ap length (numbers-at c.setup d sender c.events true sends) in
          let fewer = length-filter_map-le (number_from sender) (events_of c d) in
          omega (arith, own, fewer, few);
      packets = λ device here.
          let same : d ≡ device = cc (its, here) in
          let fewer = length-filter_map-le accepted_in (events_of c device) in
          let some = subst (λ k. length (events_of c k) ≤ MAX_LINES) same few in
          omega (arith, fewer, some);
    }

-- a pull is the latest once it was made
pub latest-pulled : (c new : Course) (d moment : ℕ) (visits : List Visit) → new ≡ after c (pulled d moment visits ∷ []) → latest_visits new d ≡ visits
latest-pulled c new d moment visits goes_on = search (rules, common_steps, events-own, filter_map-append, reverse-append)

-- nothing is left
pub none-left : (r : Result (Unit {0}) Fault) → OnOk r (◌≡◌ {A = List Command} [] [])
none-left r = search rules

-- One command was carried out at a device: a pull, or an offer, which writes nothing.
pub carried-pull : (d : ℕ) (old new : Course) (moment : ℕ) (visits : List Visit) (r : Result (Unit {0}) Fault) (W : List Visit → Type 0) (asked : List Command) → asked ≡ Pull d moment ∷ [] → new ≡ after old (pulled d moment visits ∷ [])
    → CanHappen new.setup new.events → W visits → CarriedOn d old new asked r W
carried-pull d old new moment visits r W asked is goes_on can became = search (rules, none-left, append-nil)

pub carried-offer : (d : ℕ) (column : Option ℕ) (old new : Course) (p : Packet) (outcome : Offered) (x : Unit {0}) (s : Outgoing) (asked : List Command) → asked ≡ Send p.sender p.length ∷ []
    → new ≡ after old (offered p outcome ∷ []) → CanHappen new.setup new.events → sends_at old.setup d p.sender ≡ true → CarriedOn d old new asked (Ok x) (HeldOn column s s (Ok x))
carried-offer d column old new p outcome x s asked is goes_on can sends = search (rules, held-none)

-- a device can be pulled where few events happened there
pub can-pull-there : (c : Course) (d moment : ℕ) → d < length c.setup.trees → moment ≤ MAX_MOMENT → length (events_of c d) ≤ MAX_LINES → CanPull c d moment
can-pull-there c d moment there low few = search (rules, length-filter_map-le)

-- what the row of an offer at a device asks for there
pub asked-send : (setup : Setup) (d place : ℕ) (fate : Fate) (p : Packet) → device_at setup place ≡ Some d → asked_at setup d (row.Send fate place p ∷ []) ≡ Send p.sender p.length ∷ []
asked-send setup d place fate p its = let own : (d == d) ≡ true = grind (arith, nat_tests) in rw (its, own) refl

-- rows of other devices ask for nothing there
pub asked-elsewhere : (setup : Setup) (d place other : ℕ) (fate : Fate) (p : Packet) → device_at setup place ≡ Some other → other ≢ d → asked_at setup d (row.Send fate place p ∷ []) ≡ []
asked-elsewhere setup d place other fate p its apart = let no : (other == d) ≡ false = grind (arith, nat_tests, apart) in rw (its, no) refl

pub pull-elsewhere : (setup : Setup) (d other moment : ℕ) (gave : Bool) → other ≢ d → asked_at setup d (row.Pull gave other moment ∷ []) ≡ []
pull-elsewhere setup d other moment gave apart = let no : (other == d) ≡ false = grind (arith, nat_tests, apart) in rw no refl

-- a sender whose place is of a device sends there
pub sends-there : (setup : Setup) → AreRising (sender_numbers setup) → (d place s : ℕ) → sender_at setup place ≡ Some s → device_at setup place ≡ Some d → sends_at setup d s ≡ true
sends-there setup rising d place s at its = let own : (d == d) ≡ true = grind (arith, nat_tests) in sends-as-place setup rising d place s at ∙ ap (is_number d) its ∙ own

-- The commands of the first rows were carried out at a device.
abbrev pub CarriedTo : ℕ → Option ℕ → Course → Course → List ScriptRow → ℕ → (s t : Outgoing) → Type 0
CarriedTo d column old now rows i s t = CarriedOn d old now (asked_at old.setup d (take i rows)) (Ok tt) (HeldOn column s t (Ok tt))

-- Nothing happened at other devices, and little at this one.
pub carried-elsewhere : (d : ℕ) (old new : Course) (asked : List Command) (r : Result (Unit {0}) Fault) (W : List Visit → Type 0) → AreRising (sender_numbers old.setup) → CarriedOn d old new asked r W
    → (k : ℕ) → (d == k) ≡ false → events_of new k ≡ events_of old k
carried-elsewhere d old new asked r W rising carried k other = ap (λ (c : Course). events_of c k) carried.goes_on ∙ events-others old.setup rising d k old.events carried.more other carried.here

pub few-rows : (d : ℕ) (old new : Course) (rows : List ScriptRow) (r : Result (Unit {0}) Fault) (W : List Visit → Type 0) → CarriedOn d old new (asked_at old.setup d rows) r W → events_of old d ≡ [] → length rows ≤ MAX_LINES
    → length (events_of new d) ≤ MAX_LINES
few-rows d old new rows r W carried fresh few =
    let some = few-carried d old new _ r W carried in
    let none = ap length fresh in
    let asked = length-map (filter (is_row_at old.setup d) rows) command_asked in
    let fewer = length-filter-le (is_row_at old.setup d) rows in
    omega (arith, some, none, asked, fewer, few)

-- The next row can be carried out.
pub record IsNext (c : Course) (d : ℕ) (r : ScriptRow) : Type 0 where
  pub few : length (events_of c d) ≤ MAX_LINES
  pub keeps : c.keeps ≡ keeps_latest
  pub to_do : IsToDo (names_of c.setup) r

module _ (d : ℕ) (column : Option ℕ) (old now : Course) (rows : List ScriptRow) (i : ℕ) (s t : Outgoing) (carried : CarriedTo d column old now rows i s t) where
  pub same-setup : now.setup ≡ old.setup
  same-setup = ap (λ (c : Course). c.setup) carried.goes_on

  pub carried-next : events_of old d ≡ [] → old.keeps ≡ keeps_latest → length rows ≤ MAX_LINES → AllByRecursion (IsToDo (names_of old.setup)) rows → (r : ScriptRow) → i < length rows → r ≡ get_or rows i r → IsNext now d r
  carried-next fresh keeps few to_do r low is =
      record {
        few = few-rows d old now (take i rows) _ _ carried fresh (let front = length-take i rows in omega (arith, front, few));
        keeps = ap (λ (c : Course). c.keeps) carried.goes_on ∙ keeps;
        to_do = subst (λ (s : Setup). IsToDo (names_of s) r) (sym same-setup) (subst (IsToDo (names_of old.setup)) (sym is) (all-at (IsToDo (names_of old.setup)) rows i r low to_do));
      }

  pub carried-row : (new : Course) (r : ScriptRow) (result : Result (Unit {0}) Fault) (u : Outgoing) → i < length rows → r ≡ get_or rows i r
      → CarriedOn d now new (asked_at now.setup d (r ∷ [])) result (HeldOn column t u result) → CarriedOn d old new (asked_at old.setup d (take (i + 1) rows)) result (HeldOn column s u result)
  carried-row new r result u low is one =
      subst (λ l. CarriedOn d old new l result (HeldOn column s u result))
      (ap (λ s. asked_at old.setup d (take i rows) ++ asked_at s d (r ∷ [])) same-setup ∙ sym (asked-append old.setup d (take i rows) (r ∷ [])) ∙ ap (λ q. asked_at old.setup d (take i rows ++ q ∷ [])) is ∙ ap (asked_at old.setup d) (sym (take_more rows i r low)))
      (carried-then d column old now new _ _ tt result s t u carried one)

  pub carried-all : length rows ≤ i → CarriedOn d old now (asked_at old.setup d rows) (Ok tt) (HeldOn column s t (Ok tt))
  carried-all all = subst (λ l. CarriedOn d old now (asked_at old.setup d l) (Ok tt) (HeldOn column s t (Ok tt))) (take_all i rows all) carried

-- where the sink failed, later rows ask for more
pub carried-failed : (d : ℕ) (old new : Course) (rows : List ScriptRow) (i : ℕ) (fault : Fault) (W : List Visit → Type 0) → CarriedOn d old new (asked_at old.setup d (take i rows)) (Err fault) W
    → CarriedOn d old new (asked_at old.setup d rows) (Err fault) W
carried-failed d old new rows i fault W h =
    subst (λ l. CarriedOn d old new l (Err fault) W) (sym (asked-append old.setup d (take i rows) (drop i rows)) ∙ ap (asked_at old.setup d) (take-append-drop i rows))
    (carried-cut d old new _ (asked_at old.setup d (drop i rows)) fault W h)

-- A device was pulled so often, one tick apart, from a moment on.
abbrev pub PulledTo : ℕ → Option ℕ → Course → Course → (start moment : ℕ) (s t : Outgoing) → Type 0
PulledTo d column old now start moment s t = CarriedOn d old now (pulls_asked d (start + 1) (moment - start)) (Ok tt) (HeldOn column s t (Ok tt))

-- It can be pulled once more.
pub can-pull-on : (d : ℕ) (column : Option ℕ) (old now : Course) (start moment : ℕ) (s t : Outgoing) → PulledTo d column old now start moment s t → d < length old.setup.trees → length (events_of old d) ≤ MAX_LINES
    → moment + 1 < END_OF_MOMENTS → CanPull now d (moment + 1)
can-pull-on d column old now start moment s t so_far there few low =
    record {
      there = subst (λ (c : Course). d < length c.setup.trees) (sym so_far.goes_on) there;
      moments = low;
      pulls =
          let some = few-carried d old now _ _ _ so_far in
          let asked = length-map-range_with_len (Pull d) (start + 1) (moment - start) in
          let fewer = length-filter_map-le pull_in (events_of now d) in
          omega (arith, some, asked, fewer, few, low);
    }

-- It was.
pub pulled-on : (d : ℕ) (column : Option ℕ) (old now new : Course) (start moment : ℕ) (visits : List Visit) (r : Result (Unit {0}) Fault) (s t u : Outgoing) → PulledTo d column old now start moment s t → start ≤ moment
    → new ≡ after now (pulled d (moment + 1) visits ∷ []) → CanHappen new.setup new.events → HeldOn column t u r visits
    → CarriedOn d old new (pulls_asked d (start + 1) (moment + 1 - start)) r (HeldOn column s u r)
pulled-on d column old now new start moment visits r s t u so_far after_start goes_on can held =
    let n = moment - start in
    let count : n + 1 ≡ moment + 1 - start = omega (arith, after_start) in
    subst (λ l. CarriedOn d old new l r (HeldOn column s u r)) (sym (map-range_with_len_more (Pull d) (start + 1) n (moment + 1) (omega (arith, after_start))) ∙ ap (pulls_asked d (start + 1)) count)
    (carried-then d column old now new _ _ tt r s t u so_far (carried-pull d now new (moment + 1) visits r (HeldOn column t u r) _ refl goes_on can held))

-- All were made.
pub pulls-all : (d : ℕ) (column : Option ℕ) (old now : Course) (start moment end : ℕ) (s t : Outgoing) → PulledTo d column old now start moment s t → moment - start ≡ end - start
    → CarriedOn d old now (pulls_asked d (start + 1) (end - start)) (Ok tt) (HeldOn column s t (Ok tt))
pulls-all d column old now start moment end s t so_far same = subst (λ n. CarriedOn d old now (pulls_asked d (start + 1) n) (Ok tt) (HeldOn column s t (Ok tt))) same so_far

-- Where the sink failed, more pulls are asked for.
pub pulls-failed : (d : ℕ) (old new : Course) (t k n : ℕ) (fault : Fault) (W : List Visit → Type 0) → k ≤ n → CarriedOn d old new (pulls_asked d t k) (Err fault) W → CarriedOn d old new (pulls_asked d t n) (Err fault) W
pulls-failed d old new t k n fault W low h =
    subst (λ l. CarriedOn d old new l (Err fault) W) (ap (λ l. l ++ drop k (pulls_asked d t n)) (sym (take-map-range_with_len (Pull d) t n k low)) ∙ take-append-drop k (pulls_asked d t n))
    (carried-cut d old new _ (drop k (pulls_asked d t n)) fault W h)
