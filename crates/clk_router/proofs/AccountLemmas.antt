-- The accounts of senders after one event more.
use Rattle.std.proofs.Common.{◌≡◌, ℕ, ◌+◌, ◌^◌, ◌<◌, ◌==◌, Bool, true, false, if◌then◌else◌, List, [], ◌∷◌, ◌++◌, length, map, set, drop, Option, Some, None, MatchOption, slice_get, get_or, refl, sym, ap, ap₂, ◌∙◌, subst, arith, rules}
use Rattle.std.specs.List.{list_any, filter_map, cons_option, AllByRecursion}
use Rattle.std.specs.Option.{option_map}
use Rattle.std.proofs.lemmas.List.{append-nil, append_assoc, drop_more, length-append, length-map}
use Rattle.std.proofs.lemmas.List.Elements.{filter-append, filter_map-append}
use Rattle.std.proofs.lemmas.Option.{slice_get-map, slice_get_read, slice_get_within}
use Rattle.std.proofs.lemmas.Bool.Decides.{nat_tests}
use Rattle.std.proofs.Math.Nat.{mod-eq_of_lt}
use Rattle.clk_packet.specs.declared.counts.Total.{Total}
use Rattle.clk_packet.specs.declared.packet.Packet.{Packet}
use Rattle.clk_packet.specs.declared.packet.Offered.{Offered}
use Rattle.clk_packet.specs.declared.packet.Offered.TheVariants.{Accepted, Refused, Evicted}
use Rattle.clk_packet.specs.Lists.{of_sender, AreRising}
use Rattle.clk_packet.specs.Counts.{total_of, bytes_of}
use Rattle.clk_packet.proofs.Callers.Counts.{bytes-append, bytes-few}
use Rattle.clk_packet.proofs.Callers.Dealt.{dealt-length}
use Rattle.clk_sched.specs.declared.visit.Visit.{Visit}
use Rattle.clk_sched.specs.declared.session.departures.Departure.{Departure}
use Rattle.clk_sched.specs.Departures.{departure_at, departures_in}
use Rattle.clk_sched.specs.Log.{visits_of, moment_of, result_of}
use Rattle.clk_sched.specs.Results.{heads}
use Rattle.clk_sched.specs.Tree.{Tree}
use Rattle.clk_tree.specs.declared.plan.parts.SenderSpec.{SenderSpec}
use Rattle.clk_tree.specs.PlanParts.{number_of}
use Rattle.clk_router.specs.declared.accounts.Account.{Account}
use Rattle.clk_router.specs.declared.parts.Parts.{Parts}
use Rattle.clk_router.specs.Accounts.{account_after, account_sender, HasFew, AreFew}
use Rattle.clk_sched.specs.Keeps.{keeps_nothing}
use Rattle.clk_router.specs.Course.{Course, after, IsPulled}
use Rattle.clk_router.specs.Events.{Room, Setup, sender_numbers, Event, offered, pulled, pulls_from, events_at, log_of, accepted_in, refused_in, evicted_in, emitted_in}
use Rattle.clk_router.specs.inside.Accounts.{with_packet, with_its, with_totals, put_out, with_emitted}
use Rattle.clk_router.specs.Settled.{IsCourseAccounted, IsSenderAccounted, emitted_by, offered_of}
use Rattle.clk_router.specs.inside.Parts.{sender_after, HasSentFew, IsAt}
use Rattle.clk_router.proofs.Settled.Numbers.{offered-count}
use Rattle.clk_router.proofs.Callers.Keyed.{ChangesOnly, others-stay, changed-at}

-- an account after a packet was accepted
abbrev pub taken_in : Packet → Account → Account
taken_in p a = with_totals a (with_its a.counts.sender p a.counts.accepted) a.counts.refused a.counts.evicted a.counts.emitted

-- an account after a packet was refused
abbrev pub turned_away : Packet → Account → Account
turned_away p a = with_totals a a.counts.accepted (with_its a.counts.sender p a.counts.refused) a.counts.evicted a.counts.emitted

-- an account after an offer with this outcome
abbrev pub noted : Packet → Offered → Account → Account
noted p Accepted a = taken_in p a
noted p (Refused q) a = turned_away p a
noted p (Evicted front) a = put_out front (taken_in p a)

-- an account after a pull with this result
abbrev pub given : Option Packet → Account → Account
given None a = a
given (Some p) a = with_emitted p a

-- an account after a drain that emitted these packets
abbrev pub departed : List Departure → Account → Account
departed [] a = a
departed (d ∷ more) a = departed more (with_emitted d.packet a)

-- one packet more in a total, and one of a sender's packets, if they are few
total-more : (packets : List Packet) (p : Packet) → length (packets ++ p ∷ []) < 2 ^ 32 → with_packet p (total_of packets) ≡ total_of (packets ++ p ∷ [])
total-more packets p few =
    let count : length (packets ++ p ∷ []) ≡ length packets + 1 = length-append packets (p ∷ []) in
    let all : bytes_of (packets ++ p ∷ []) ≡ bytes_of packets + p.length = search (rules, bytes-append) in
    let most = bytes-few (packets ++ p ∷ []) in
    let fits : length packets + 1 < 2 ^ 64 = omega (arith, few, count) in
    let fits_bytes : bytes_of packets + p.length < 2 ^ 64 = omega (arith, few, all, most) in
    λ i. record { packets = (mod-eq_of_lt fits ∙ sym count) i; bytes = (mod-eq_of_lt fits_bytes ∙ sym all) i }

one-more : (s : ℕ) (packets : List Packet) (p : Packet) → length (packets ++ of_sender s (p ∷ [])) < 2 ^ 32 → with_its s p (total_of packets) ≡ total_of (packets ++ of_sender s (p ∷ []))
one-more s packets p = by_test (p.sender == s)
  where
    by_test : (b : Bool) → length (packets ++ (if b then p ∷ [] else [])) < 2 ^ 32 → (if b then with_packet p (total_of packets) else total_of packets) ≡ total_of (packets ++ (if b then p ∷ [] else []))
    by_test true few = total-more packets p few
    by_test false few = ap total_of (sym (append-nil packets))

-- what an event adds to the total of a sender's packets of some kind, by the packet of that kind in it
abbrev with_any : ℕ → Option Packet → Total ℕ → Total ℕ
with_any s None t = t
with_any s (Some p) t = with_its s p t

any-more : (s : ℕ) (packets : List Packet) (o : Option Packet) → length (packets ++ of_sender s (cons_option o [])) < 2 ^ 32
    → with_any s o (total_of packets) ≡ total_of (packets ++ of_sender s (cons_option o []))
any-more s packets None few = ap total_of (sym (append-nil packets))
any-more s packets (Some p) few = one-more s packets p few

-- a sender's packets of some kind in more events
kind-append : (f : Event → Option Packet) (s : ℕ) (events more : List Event) → of_sender s (filter_map f (events ++ more)) ≡ of_sender s (filter_map f events) ++ of_sender s (filter_map f more)
kind-append f s events more =
    ap (of_sender s) (filter_map-append f events more) ∙ filter-append (λ (p : Packet). p.sender == s) (filter_map f events) (filter_map f more)

total-after : (f : Event → Option Packet) (s : ℕ) (events : List Event) (e : Event) → length (of_sender s (filter_map f (events ++ e ∷ []))) < 2 ^ 32
    → with_any s (f e) (total_of (of_sender s (filter_map f events))) ≡ total_of (of_sender s (filter_map f (events ++ e ∷ [])))
total-after f s events e few =
    let all = kind-append f s events (e ∷ []) in
    any-more s (of_sender s (filter_map f events)) (f e) (subst (λ l. length l < 2 ^ 32) all few) ∙ ap total_of (sym all)

-- a sender's packets of some kind were no more before
fewer-before : (f : Event → Option Packet) (s : ℕ) (events more : List Event) → length (of_sender s (filter_map f (events ++ more))) < 2 ^ 32 → length (of_sender s (filter_map f events)) < 2 ^ 32
fewer-before f s events more few =
    let all = ap length (kind-append f s events more) ∙ length-append (of_sender s (filter_map f events)) (of_sender s (filter_map f more)) in omega (arith, few, all)

few-before : (events more : List Event) (s : SenderSpec) → HasFew (account_after (events ++ more) s) → HasFew (account_after events s)
few-before events more s few =
    record {
      accepted = fewer-before accepted_in s.number events more few.accepted;
      refused = fewer-before refused_in s.number events more few.refused;
      evicted = fewer-before evicted_in s.number events more few.evicted;
      emitted = fewer-before emitted_in s.number events more few.emitted;
    }

-- a sender's account with what an event adds to each total
abbrev with_event : Event → Account → Account
with_event e a =
    let s = a.counts.sender in
    with_totals a (with_any s (accepted_in e) a.counts.accepted) (with_any s (refused_in e) a.counts.refused) (with_any s (evicted_in e) a.counts.evicted) (with_any s (emitted_in e) a.counts.emitted)

account-after : (events : List Event) (e : Event) (s : SenderSpec) → HasFew (account_after (events ++ e ∷ []) s) → with_event e (account_after events s) ≡ account_after (events ++ e ∷ []) s
account-after events e s few = λ i. record {
  queue = s.queue;
  counts = record {
    sender = s.number;
    accepted = total-after accepted_in s.number events e few.accepted i;
    refused = total-after refused_in s.number events e few.refused i;
    evicted = total-after evicted_in s.number events e few.evicted i;
    emitted = total-after emitted_in s.number events e few.emitted i;
  };
}

-- one change after another, of all
map-after : {X Y Z : Type 0} (f : Y → Z) (g : X → Y) (h : X → Z) → ((x : X) → f (g x) ≡ h x) → (xs : List X) → map f (map g xs) ≡ map h xs
map-after f g h same [] = refl
map-after {X} {Y} {Z} f g h same (x ∷ xs) = ap₂ (λ (z : Z) zs. z ∷ zs) (same x) (map-after f g h same xs)

-- a change of all accounts that are few afterwards
accounts-after : (f : Account → Account) (events more : List Event) → ((s : SenderSpec) → HasFew (account_after (events ++ more) s) → f (account_after events s) ≡ account_after (events ++ more) s)
    → (specs : List SenderSpec) → AreFew (map (account_after (events ++ more)) specs) → map f (map (account_after events) specs) ≡ map (account_after (events ++ more)) specs
accounts-after f events more same [] few = refl
accounts-after f events more same (s ∷ specs) few = ap₂ (λ (a : Account) rest. a ∷ rest) (same s few.0) (accounts-after f events more same specs few.1)

noted-event : (p : Packet) (outcome : Offered) (a : Account) → noted p outcome a ≡ with_event (offered p outcome) a
noted-event p Accepted a = refl
noted-event p (Refused q) a = refl
noted-event p (Evicted front) a = refl

given-event : (d moment : ℕ) (visits : List Visit) (a : Account) → given (result_of (visits_of 0 visits)) a ≡ with_event (pulled d moment visits) a
given-event d moment visits a = search rules

pub accounts-offered : (events : List Event) (p : Packet) (outcome : Offered) (specs : List SenderSpec) → AreFew (map (account_after (events ++ offered p outcome ∷ [])) specs)
    → map (noted p outcome) (map (account_after events) specs) ≡ map (account_after (events ++ offered p outcome ∷ [])) specs
accounts-offered events p outcome = accounts-after (noted p outcome) events (offered p outcome ∷ [])
    (λ s few. noted-event p outcome (account_after events s) ∙ account-after events (offered p outcome) s few)

pub accounts-pulled : (events : List Event) (d moment : ℕ) (visits : List Visit) (got : Option Packet) → result_of (visits_of 0 visits) ≡ got → (specs : List SenderSpec)
    → AreFew (map (account_after (events ++ pulled d moment visits ∷ [])) specs) → map (given got) (map (account_after events) specs) ≡ map (account_after (events ++ pulled d moment visits ∷ [])) specs
accounts-pulled events d moment visits got is = accounts-after (given got) events (pulled d moment visits ∷ [])
    (λ s few. ap (λ o. given o (account_after events s)) (sym is) ∙ given-event d moment visits (account_after events s) ∙ account-after events (pulled d moment visits) s few)

-- one departure more
departed-next : (moment : ℕ) (got : Option Packet) (more : List Departure) (a : Account) → departed (departure_at moment got ++ more) a ≡ departed more (given got a)
departed-next moment None more a = refl
departed-next moment (Some p) more a = refl

account-drained : (events : List Event) (d moment : ℕ) (pulls : List (List Visit)) (s : SenderSpec) → HasFew (account_after (events ++ pulls_from d moment pulls) s)
    → departed (departures_in pulls) (account_after events s) ≡ account_after (events ++ pulls_from d moment pulls) s
account-drained events d moment [] s few = ap (λ es. account_after es s) (sym (append-nil events))
account-drained events d moment (pull ∷ pulls) s few =
    let got = result_of (visits_of 0 pull) in
    let e = pulled d moment pull in
    let more = pulls_from d (moment + 1) pulls in
    let few_more = subst (λ es. HasFew (account_after es s)) (sym (append_assoc events (e ∷ []) more)) few in
    departed-next (moment_of pull) got (departures_in pulls) (account_after events s)
    ∙ ap (departed (departures_in pulls)) (given-event d moment pull (account_after events s) ∙ account-after events e s (few-before (events ++ e ∷ []) more s few_more))
    ∙ account-drained (events ++ e ∷ []) d (moment + 1) pulls s few_more
    ∙ ap (λ es. account_after es s) (append_assoc events (e ∷ []) more)

pub accounts-drained : (events : List Event) (d moment : ℕ) (pulls : List (List Visit)) (specs : List SenderSpec) → AreFew (map (account_after (events ++ pulls_from d moment pulls)) specs)
    → map (departed (departures_in pulls)) (map (account_after events) specs) ≡ map (account_after (events ++ pulls_from d moment pulls)) specs
accounts-drained events d moment pulls = accounts-after (departed (departures_in pulls)) events (pulls_from d moment pulls) (account-drained events d moment pulls)

-- what is left of a drain, after the departure at a place was counted
pub departed-on : (departures : List Departure) (i : ℕ) (d : Departure) (accounts : List Account) → i < length departures
    → map (departed (drop (i + 1) departures)) (map (with_emitted (get_or departures i d).packet) accounts) ≡ map (departed (drop i departures)) accounts
departed-on departures i d accounts within =
    map-after (departed (drop (i + 1) departures)) (with_emitted (get_or departures i d).packet) (departed (drop i departures)) (λ a. ap (λ ds. departed ds a) (sym (drop_more departures i d within))) accounts

pub departed-none : (accounts : List Account) → map (departed []) accounts ≡ accounts
departed-none [] = refl
departed-none (a ∷ accounts) = ap (λ l. a ∷ l) (departed-none accounts)

-- whose accounts these are
pub accounts-senders : (events : List Event) (specs : List SenderSpec) → map account_sender (map (account_after events) specs) ≡ map number_of specs
accounts-senders events = map-after account_sender (account_after events) number_of (λ s. refl)

pub taken_in-senders : (p : Packet) (accounts : List Account) → map account_sender (map (taken_in p) accounts) ≡ map account_sender accounts
taken_in-senders p = map-after account_sender (taken_in p) account_sender (λ a. refl)

pub emitted-senders : (p : Packet) (accounts : List Account) → map account_sender (map (with_emitted p) accounts) ≡ map account_sender accounts
emitted-senders p = map-after account_sender (with_emitted p) account_sender (λ a. refl)

pub evicted-both : (p front : Packet) (accounts : List Account) → map (put_out front) (map (taken_in p) accounts) ≡ map (noted p (Evicted front)) accounts
evicted-both p front = map-after (put_out front) (taken_in p) (noted p (Evicted front)) (λ a. refl)

pub given-none : (accounts : List Account) → map (given None) accounts ≡ accounts
given-none [] = refl
given-none (a ∷ accounts) = ap (λ l. a ∷ l) (given-none accounts)

-- a packet counts for its own sender alone
its-other : (s : ℕ) (p : Packet) (t : Total ℕ) → (p.sender == s) ≡ false → with_its s p t ≡ t
its-other s p t e = rw e refl

its-own : (s : ℕ) (p : Packet) (t : Total ℕ) → (p.sender == s) ≡ true → with_packet p t ≡ with_its s p t
its-own s p t e = rw e refl

taken_in-its : (p : Packet) → ChangesOnly account_sender p.sender (taken_in p)
taken_in-its p a e = ap (λ t. with_totals a t a.counts.refused a.counts.evicted a.counts.emitted) (its-other a.counts.sender p a.counts.accepted e)

turned_away-its : (p : Packet) → ChangesOnly account_sender p.sender (turned_away p)
turned_away-its p a e = ap (λ t. with_totals a a.counts.accepted t a.counts.evicted a.counts.emitted) (its-other a.counts.sender p a.counts.refused e)

put_out-its : (p : Packet) → ChangesOnly account_sender p.sender (put_out p)
put_out-its p a e = ap (λ t. with_totals a a.counts.accepted a.counts.refused t a.counts.emitted) (its-other a.counts.sender p a.counts.evicted e)

with_emitted-its : (p : Packet) → ChangesOnly account_sender p.sender (with_emitted p)
with_emitted-its p a e = ap (λ t. with_totals a a.counts.accepted a.counts.refused a.counts.evicted t) (its-other a.counts.sender p a.counts.emitted e)

-- the account of a packet's sender stands at a place
module _ (accounts : List Account) (numbers : List ℕ) (p : Packet) (place : ℕ) (alike : map account_sender accounts ≡ numbers) (at : slice_get numbers place ≡ Some p.sender) where
  pub place-within : place < length accounts
  place-within = let within = slice_get_within numbers place p.sender at in let count = ap length (sym alike) ∙ length-map accounts account_sender in omega (arith, within, count)

  module _ (i : ℕ) (a : Account) (rising : AreRising numbers) (same : i ≡ place) (is : a ≡ get_or accounts i a) (total : Total ℕ) where
    here : slice_get accounts i ≡ Some a
    here = slice_get_read accounts _ i a refl (let within = place-within in omega (arith, same, within)) is

    number : a.counts.sender ≡ p.sender
    number =
        let e : Some a.counts.sender ≡ Some p.sender = ap (option_map account_sender) (sym here) ∙ sym (slice_get-map account_sender accounts i) ∙ ap (λ l. slice_get l i) alike ∙ ap (slice_get numbers) same ∙ at in
        cc e

    own : (p.sender == a.counts.sender) ≡ true
    own = let n = number in grind (arith, nat_tests)

    changed : (f : Account → Account) → ChangesOnly account_sender p.sender f → set accounts i (f a) ≡ map f accounts
    changed f its = changed-at account_sender f accounts i a (subst AreRising (sym alike) rising) (subst (λ s. ChangesOnly account_sender s f) (sym number) its) here

    pub taken_in-at : total ≡ with_packet p a.counts.accepted → set accounts i (with_totals a total a.counts.refused a.counts.evicted a.counts.emitted) ≡ map (taken_in p) accounts
    taken_in-at e = ap (λ t. set accounts i (with_totals a t a.counts.refused a.counts.evicted a.counts.emitted)) (e ∙ its-own a.counts.sender p a.counts.accepted own) ∙ changed (taken_in p) (taken_in-its p)

    pub turned_away-at : total ≡ with_packet p a.counts.refused → set accounts i (with_totals a a.counts.accepted total a.counts.evicted a.counts.emitted) ≡ map (turned_away p) accounts
    turned_away-at e = ap (λ t. set accounts i (with_totals a a.counts.accepted t a.counts.evicted a.counts.emitted)) (e ∙ its-own a.counts.sender p a.counts.refused own) ∙ changed (turned_away p) (turned_away-its p)

    pub put_out-at : total ≡ with_packet p a.counts.evicted → set accounts i (with_totals a a.counts.accepted a.counts.refused total a.counts.emitted) ≡ map (put_out p) accounts
    put_out-at e = ap (λ t. set accounts i (with_totals a a.counts.accepted a.counts.refused t a.counts.emitted)) (e ∙ its-own a.counts.sender p a.counts.evicted own) ∙ changed (put_out p) (put_out-its p)

    pub with_emitted-at : total ≡ with_packet p a.counts.emitted → set accounts i (with_totals a a.counts.accepted a.counts.refused a.counts.evicted total) ≡ map (with_emitted p) accounts
    with_emitted-at e = ap (λ t. set accounts i (with_totals a a.counts.accepted a.counts.refused a.counts.evicted t)) (e ∙ its-own a.counts.sender p a.counts.emitted own) ∙ changed (with_emitted p) (with_emitted-its p)

-- a packet of a sender without an account changes none
pub put_out-none : (accounts : List Account) (numbers : List ℕ) (p : Packet) → map account_sender accounts ≡ numbers → list_any (λ n. n == p.sender) numbers ≡ false → accounts ≡ map (put_out p) accounts
put_out-none accounts numbers p alike none = others-stay account_sender p.sender (put_out p) accounts (put_out-its p) (subst (λ l. list_any (λ n. n == p.sender) l ≡ false) (sym alike) none)

pub with_emitted-none : (accounts : List Account) (numbers : List ℕ) (p : Packet) → map account_sender accounts ≡ numbers → list_any (λ n. n == p.sender) numbers ≡ false → accounts ≡ map (with_emitted p) accounts
with_emitted-none accounts numbers p alike none = others-stay account_sender p.sender (with_emitted p) accounts (with_emitted-its p) (subst (λ l. list_any (λ n. n == p.sender) l ≡ false) (sym alike) none)

-- a sender that is accounted for has few packets of each outcome, if it has offered few
sender-few : (setup : Setup) (events : List Event) (s : SenderSpec) (room : Room) (tree : Tree) → IsSenderAccounted setup events s room tree → length (offered_of events s.number) < 2 ^ 32 → HasFew (account_after events s)
sender-few setup events s room tree a few =
    let offered_are = dealt-length (offered_of events s.number) (of_sender s.number (filter_map accepted_in events)) (of_sender s.number (filter_map refused_in events)) a.offered_are in
    let gone_are = dealt-length a.gone (of_sender s.number (filter_map evicted_in events)) a.given a.gone_are in
    let accepted_are = ap length a.accepted_are ∙ length-append a.gone _ in
    let its = of_sender s.number (emitted_by setup room.device events) in
    let given_are : length a.given ≡ length its + length (of_sender s.number (heads tree (log_of (events_at setup room.device events)))) = ap length a.given_are ∙ length-append its _ in
    let counted = ap length a.counted in
    record {
      accepted = omega (arith, few, offered_are);
      refused = omega (arith, few, offered_are);
      evicted = omega (arith, few, offered_are, accepted_are, gone_are);
      emitted = omega (arith, few, offered_are, accepted_are, gone_are, given_are, counted);
    }

-- so do all senders of a course
pub course-few : (setup : Setup) (events : List Event) → IsCourseAccounted setup events → AllByRecursion (λ s. length (offered_of events s) < 2 ^ 32) (sender_numbers setup) → AreFew (map (account_after events) setup.senders)
course-few setup events = each setup.senders
  where
    by_tree : (s : SenderSpec) (room : Room) (o : Option Tree) → MatchOption o ⊥ (IsSenderAccounted setup events s room) → length (offered_of events s.number) < 2 ^ 32 → HasFew (account_after events s)
    by_tree s room None h few = absurd h
    by_tree s room (Some tree) h few = sender-few setup events s room tree h few

    by_room : (s : SenderSpec) (o : Option Room) → MatchOption o ⊥ (λ (room : Room). MatchOption (slice_get setup.trees room.device) ⊥ (IsSenderAccounted setup events s room)) → length (offered_of events s.number) < 2 ^ 32
        → HasFew (account_after events s)
    by_room s None h few = absurd h
    by_room s (Some room) h few = by_tree s room (slice_get setup.trees room.device) h few

    each : (senders : List SenderSpec) → AllByRecursion (λ (s : SenderSpec). MatchOption (slice_get setup.queues s.queue) ⊥ (λ (room : Room). MatchOption (slice_get setup.trees room.device) ⊥ (IsSenderAccounted setup events s room))) senders
        → AllByRecursion (λ s. length (offered_of events s) < 2 ^ 32) (map number_of senders) → AreFew (map (account_after events) senders)
    each [] accounted few = tt
    each (s ∷ senders) accounted few = (by_room s (slice_get setup.queues s.queue) accounted.0 few.0, each senders accounted.1 few.1)

-- each sender has offered few packets, by the router's parts
offers-few : (events : List Event) (specs : List SenderSpec) → AllByRecursion HasSentFew (map (sender_after events) specs) → AllByRecursion (λ s. length (offered_of events s) < 2 ^ 32) (map number_of specs)
offers-few events [] sent = tt
offers-few events (s ∷ specs) sent = (let same = offered-count s.number events in let here = sent.0 in omega (arith, same, here), offers-few events specs sent.1)

pub parts-few : (setup : Setup) (events : List Event) (parts : Parts) → IsAt setup events parts → AllByRecursion (λ s. length (offered_of events s) < 2 ^ 32) (sender_numbers setup)
parts-few setup events parts at = offers-few events setup.senders (subst (AllByRecursion HasSentFew) at.senders at.sent)

-- The accounts of a router that went on by some events.
module _ (old new : Course) (more : List Event) where
  pub alike-after : (accounts : List Account) (numbers : List ℕ) → accounts ≡ map (account_after old.events) old.setup.senders → new ≡ after old more → numbers ≡ sender_numbers new.setup → map account_sender accounts ≡ numbers
  alike-after accounts numbers are goes_on numbers_are =
      ap (map account_sender) are ∙ accounts-senders old.events old.setup.senders ∙ ap (λ (c : Course). sender_numbers c.setup) (sym goes_on) ∙ sym numbers_are

  -- the accounts are few, by the laws of the router afterwards
  pub few-after : new ≡ after old more → IsCourseAccounted new.setup new.events → AllByRecursion (λ s. length (offered_of new.events s) < 2 ^ 32) (sender_numbers new.setup)
      → AreFew (map (account_after (old.events ++ more)) old.setup.senders)
  few-after goes_on accounted few = subst (λ (c : Course). AreFew (map (account_after c.events) c.setup.senders)) goes_on (course-few new.setup new.events accounted few)

  pub accounts-go_on : (accounts changed : List Account) (names : List (List ℕ)) → (old.keeps ≡ keeps_nothing) × (accounts ≡ map (account_after old.events) old.setup.senders) × (names ≡ old.setup.names) → new ≡ after old more
      → changed ≡ map (account_after (old.events ++ more)) old.setup.senders → (new.keeps ≡ keeps_nothing) × (changed ≡ map (account_after new.events) new.setup.senders) × (names ≡ new.setup.names)
  accounts-go_on accounts changed names were goes_on are =
      (ap (λ (c : Course). c.keeps) goes_on ∙ were.0, are ∙ ap (λ (c : Course). map (account_after c.events) c.setup.senders) (sym goes_on), were.2 ∙ ap (λ (c : Course). c.setup.names) (sym goes_on))

-- The accounts of a router that was pulled once.
pub accounts-pulled_on : (old new : Course) (accounts changed : List Account) (names : List (List ℕ)) → (old.keeps ≡ keeps_nothing) × (accounts ≡ map (account_after old.events) old.setup.senders) × (names ≡ old.setup.names)
    → (d moment : ℕ) (got : Option Packet) → IsPulled old new d moment got → IsCourseAccounted new.setup new.events → AllByRecursion (λ s. length (offered_of new.events s) < 2 ^ 32) (sender_numbers new.setup)
    → ((events : List Event) (specs : List SenderSpec) (device t : ℕ) (visits : List Visit) → AreFew (map (account_after (events ++ pulled device t visits ∷ [])) specs) → result_of (visits_of 0 visits) ≡ got
    → accounts ≡ map (account_after events) specs → changed ≡ map (account_after (events ++ pulled device t visits ∷ [])) specs)
    → (new.keeps ≡ keeps_nothing) × (changed ≡ map (account_after new.events) new.setup.senders) × (names ≡ new.setup.names)
accounts-pulled_on old new accounts changed names were d moment got pull accounted few counted =
    let more : List Event = pulled d moment pull.visits ∷ [] in
    accounts-go_on old new more accounts changed names were pull.goes_on (counted old.events old.setup.senders d moment pull.visits (few-after old new more pull.goes_on accounted few) pull.result were.1)
