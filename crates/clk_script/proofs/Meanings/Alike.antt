-- What two histories, or two lists of events, have in common after the same events.
use Rattle.std.proofs.Common.{◌≡◌, ℕ, ◌+◌, zero, suc, List, [], ◌∷◌, ◌++◌, length, drop, map, max, fold, Option, refl, sym, ap, ap₂, ◌∙◌, subst, arith, rules}
use Rattle.std.specs.List.{filter_map, range_with_len, AllByRecursion}
use Rattle.std.proofs.lemmas.List.{map-append, append_assoc, append-nil}
use Rattle.std.proofs.lemmas.List.Elements.{filter-append, filter_map-append}
use Rattle.clk_packet.specs.declared.packet.Packet.{Packet}
use Rattle.clk_packet.specs.declared.packet.Kind.{Kind}
use Rattle.clk_ring.specs.QueueHistory.{QueueEvent, IsQueueHistory, pull_event}
use Rattle.clk_ring.specs.Laws.{HistoriesLeaveNoChoice}
use Rattle.clk_sched.specs.declared.visit.Visit.{Visit}
use Rattle.clk_sched.specs.Log.{moment_of, counted}
use Rattle.clk_sched.specs.Choice.{GoAlike}
use Rattle.clk_sched.specs.Tree.{Tree}
use Rattle.clk_router.specs.Events.{Setup, Event, offered, pulled, events_at, pull_in, moment_in, RunsTree}

-- the same member before lists that go alike
alike-more : {X : Type 0} (x y : X) (xs ys : List X) → x ≡ y → GoAlike xs ys → GoAlike (x ∷ xs) (y ∷ ys)
alike-more x y xs ys e h = record { left = h.left; right = h.right; same = ap₂ (λ z zs. z ∷ zs) e h.same }

-- after the same history, pulls of a queue are answered alike
pub pulls-alike : HistoriesLeaveNoChoice → (kind : Kind) (capacity : ℕ) (events : List QueueEvent) (xs ys : List (Option Packet)) (more rest : List QueueEvent)
    → IsQueueHistory kind capacity (events ++ (map pull_event xs ++ more)) → IsQueueHistory kind capacity (events ++ (map pull_event ys ++ rest)) → GoAlike xs ys
pulls-alike law kind capacity events [] ys more rest a b = record { left = ys; right = []; same = sym (append-nil ys) }
pulls-alike law kind capacity events (x ∷ xs) [] more rest a b = record { left = []; right = x ∷ xs; same = append-nil (x ∷ xs) }
pulls-alike law kind capacity events (x ∷ xs) (y ∷ ys) more rest a b =
    let first : x ≡ y = law.answers kind capacity events x y (map pull_event xs ++ more) (map pull_event ys ++ rest) a b in
    alike-more x y xs ys first
    (pulls-alike law kind capacity (events ++ pull_event x ∷ []) xs ys more rest (rw append_assoc a)
    (rw append_assoc (subst (λ z. IsQueueHistory kind capacity (events ++ pull_event z ∷ (map pull_event ys ++ rest))) (sym first) b)))

-- the counted moment after so many pulls follows from the moments handed in
pub moment-counted : (before : ℕ) (xs : List ℕ) (x : ℕ) (more ms : List ℕ) (m : ℕ) (rest : List ℕ) → length xs ≡ length ms → xs ++ x ∷ more ≡ counted before (ms ++ m ∷ rest)
    → x ≡ max (fold max before ms) m
moment-counted before [] x more [] m rest l e = search rules
moment-counted before [] x more (n ∷ ms) m rest l e = absurd (omega arith)
moment-counted before (y ∷ xs) x more [] m rest l e = absurd (omega arith)
moment-counted before (y ∷ xs) x more (n ∷ ms) m rest l e = moment-counted (max before n) xs x more ms m rest (omega arith) (ap (drop 1) e)

-- the number at a place of a range from 0
pub number-at : (xs : List ℕ) (x : ℕ) (more : List ℕ) (from n : ℕ) → xs ++ x ∷ more ≡ range_with_len from n → x ≡ from + length xs
number-at [] x more from zero e = absurd (omega (arith, ap length e))
number-at [] x more from (suc n) e = search rules
number-at (y ∷ xs) x more from zero e = absurd (omega (arith, ap length e))
number-at (y ∷ xs) x more from (suc n) e = number-at xs x more (from + 1) n (ap (drop 1) e) ∙ omega arith

-- what holds of each member of two lists joined holds of a member between them
pub member-between : {X : Type 0} (P : X → Type 0) (xs : List X) (x : X) (ys : List X) → AllByRecursion P (xs ++ x ∷ ys) → P x
member-between P [] x ys h = h.0
member-between P (z ∷ xs) x ys h = member-between P xs x ys h.1

-- as many moments were handed in as there were pulls
moments-count : (events : List Event) → length (map moment_of (filter_map pull_in events)) ≡ length (filter_map moment_in events)
moments-count [] = refl
moments-count (offered p outcome ∷ events) = moments-count events
moments-count (pulled d m v ∷ events) = ap suc (moments-count events)

-- the counted moment of a pull between others of its device
pub its-moment : (tree : Tree) (done : List Event) (d m : ℕ) (v : List Visit) (more : List Event) → RunsTree tree (done ++ pulled d m v ∷ more)
    → moment_of v ≡ max (fold max 0 (filter_map moment_in done)) m
its-moment tree done d m v more runs =
    moment-counted 0 (map moment_of (filter_map pull_in done)) (moment_of v) (map moment_of (filter_map pull_in more)) (filter_map moment_in done) m (filter_map moment_in more) (moments-count done)
    (sym (ap (map moment_of) (filter_map-append pull_in done (pulled d m v ∷ more)) ∙ map-append moment_of (filter_map pull_in done) (v ∷ filter_map pull_in more)) ∙ runs.moments
    ∙ ap (counted 0) (filter_map-append moment_in done (pulled d m v ∷ more)))

-- a pull stands among the events of its device
pub events-at-pull : (setup : Setup) (d m : ℕ) (v : List Visit) (done more : List Event)
    → events_at setup d (done ++ pulled d m v ∷ more) ≡ events_at setup d done ++ pulled d m v ∷ events_at setup d more
events-at-pull setup d m v done more = search (rules, filter-append)
