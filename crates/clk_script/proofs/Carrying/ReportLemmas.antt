-- The accounts of all senders tell the report of a course.
use Rattle.std.proofs.Common.{◌≡◌, ℕ, zero, suc, ◌+◌, ◌<◌, ◌≤◌, ◌==◌, Bool, true, false, List, [], ◌∷◌, ◌++◌, length, map, MatchOption, slice_get, get_or, drop, refl, sym, ap, ap₂, ◌∙◌, arith, rules}
use Rattle.std.specs.List.{flat_map, filter_map, range_with_len, AllByRecursion}
use Rattle.std.proofs.lemmas.Bool.Decides.{nat_tests}
use Rattle.std.proofs.lemmas.List.{append-nil, drop_more}
use Rattle.std.proofs.lemmas.List.Elements.{filter-append}
use Rattle.std.proofs.lemmas.Option.{slice_get_within}
use Rattle.clk_packet.specs.declared.packet.Packet.{Packet}
use Rattle.clk_packet.specs.Lists.{of_sender}
use Rattle.clk_packet.specs.Counts.{total_of, counts_of}
use Rattle.clk_sched.specs.declared.visit.Visit.{Visit}
use Rattle.clk_sched.specs.Results.{emitted}
use Rattle.clk_sched.specs.Tree.{Tree}
use Rattle.clk_tree.specs.declared.plan.parts.SenderSpec.{SenderSpec}
use Rattle.clk_tree.specs.PlanParts.{number_of}
use Rattle.clk_report.specs.Report.{report_text}
use Rattle.clk_report.specs.Counts.{counts_text}
use Rattle.clk_report.proofs.Callers.Counts.{counts-tell}
use Rattle.clk_router.specs.declared.accounts.Account.{Account}
use Rattle.clk_router.specs.Accounts.{account_after}
use Rattle.clk_router.specs.Events.{Room, Setup, Event, sender_numbers, events_at, log_of, logs_of, emitted_in, tally_after}
use Rattle.clk_router.specs.Settled.{IsCourseAccounted, IsSenderAccounted, emitted_by}
use Rattle.clk_script.specs.AccountLines.{account_line}

-- lists by number, of which one alone has members
none-there : {X : Type 0} (f : ℕ → List X) (here first count : ℕ) → here < first → ((d : ℕ) → (here == d) ≡ false → f d ≡ []) → flat_map f (range_with_len first count) ≡ []
none-there f here first zero below others = refl
none-there f here first (suc count) below others = search (rules, (none-there f here (first + 1) count (omega (arith, below)) others))

only-there : {X : Type 0} (f : ℕ → List X) (here first count : ℕ) → first ≤ here → here < first + count → ((d : ℕ) → (here == d) ≡ false → f d ≡ []) → flat_map f (range_with_len first count) ≡ f here
only-there f here first zero from to others = absurd (omega (arith, from, to))
only-there {X} f here first (suc count) from to others = by_test (here == first) refl (λ more. only-there f here (first + 1) count more (omega (arith, to)) others)
  where
    by_test : (b : Bool) → (here == first) ≡ b → (first + 1 ≤ here → flat_map f (range_with_len (first + 1) count) ≡ f here) → flat_map f (range_with_len first (suc count)) ≡ f here
    by_test true e rest =
        let same : here ≡ first = grind (arith, nat_tests, e) in
        ap₂ (λ a b. a ++ b) (ap f (sym same)) (none-there f here (first + 1) count (omega (arith, same)) others) ∙ append-nil (f here)
    by_test false e rest =
        let beyond : first + 1 ≤ here = grind (arith, nat_tests, from, e) in
        ap₂ (λ a b. a ++ b) (others first e) (rest beyond)

-- the packets of a sender that some devices emitted, device by device
by-device : (s : ℕ) (log : ℕ → List Visit) (devices : List ℕ) → of_sender s (flat_map emitted (map log devices)) ≡ flat_map (λ d. of_sender s (emitted (log d))) devices
by-device s log [] = refl
by-device s log (d ∷ devices) = filter-append (λ (p : Packet). p.sender == s) (emitted (log d)) (flat_map emitted (map log devices)) ∙ ap (λ l. of_sender s (emitted (log d)) ++ l) (by-device s log devices)

-- a sender's packets that all devices emitted are those that all pulls returned
all-emitted : (setup : Setup) (events : List Event) (s : SenderSpec) (room : Room) (tree : Tree) → IsSenderAccounted setup events s room tree → room.device < length setup.trees
    → of_sender s.number (flat_map emitted (logs_of setup events)) ≡ of_sender s.number (filter_map emitted_in events)
all-emitted setup events s room tree a there =
    by-device s.number (λ d. log_of (events_at setup d events)) (range_with_len 0 (length setup.trees))
    ∙ only-there (λ d. of_sender s.number (emitted_by setup d events)) room.device 0 (length setup.trees) (omega arith) (omega (arith, there)) a.elsewhere ∙ sym a.counted

-- the line of a sender's account is that of the report
line-is : (setup : Setup) (events : List Event) (s : SenderSpec) (room : Room) (tree : Tree) → IsSenderAccounted setup events s room tree → room.device < length setup.trees
    → account_line (account_after events s) ≡ counts_text (counts_of (flat_map emitted (logs_of setup events)) (tally_after events s.number))
line-is setup events s room tree a there =
    ap (λ (packets : List Packet). counts_text (record (counts_of [] (tally_after events s.number)) { emitted = total_of packets })) (sym (all-emitted setup events s room tree a there))

-- the lines of the accounts of some senders
lines-are : (setup : Setup) (events : List Event) (senders : List SenderSpec)
    → AllByRecursion (λ (s : SenderSpec). MatchOption (slice_get setup.queues s.queue) ⊥ (λ (room : Room). MatchOption (slice_get setup.trees room.device) ⊥ (IsSenderAccounted setup events s room))) senders
    → flat_map account_line (map (account_after events) senders) ≡ flat_map counts_text (map (counts_of (flat_map emitted (logs_of setup events))) (map (tally_after events) (map number_of senders)))
lines-are setup events [] accounted = refl
lines-are setup events (s ∷ senders) accounted = search (rules, line-is, slice_get_within, (lines-are setup events senders accounted.1))

-- the accounts of all senders tell the report
pub accounts-tell : (setup : Setup) (events : List Event) → IsCourseAccounted setup events
    → flat_map account_line (map (account_after events) setup.senders) ≡ report_text (flat_map emitted (logs_of setup events)) (map (tally_after events) (sender_numbers setup))
accounts-tell setup events accounted = lines-are setup events setup.senders accounted ∙ counts-tell (flat_map emitted (logs_of setup events)) (map (tally_after events) (sender_numbers setup))

-- the line of the account at a place, and those after it
pub accounts-more : (accounts : List Account) (i : ℕ) (none : Account) → i < length accounts
    → flat_map account_line (drop i accounts) ≡ account_line (get_or accounts i none) ++ flat_map account_line (drop (i + 1) accounts)
accounts-more accounts i none within = ap (flat_map account_line) (drop_more accounts i none within)
