-- No law takes notice of a turn without visits: what it allows after some turns follows from those that have visits.
use Rattle.std.proofs.Common.{◌≡◌, ◌+◌, ◌*◌, ◌&&◌, nat_le, ℕ, Bool, true, false, if◌then◌else◌, List, [], ◌∷◌, ◌++◌, map, filter, reverse, inl, inr, refl, sym, ap, ◌∙◌, rules}
use Rattle.std.specs.Bool.{⊤}
use Rattle.clk_sched.specs.declared.visit.Visit.{Visit}
use Rattle.clk_sched.specs.Turns.{Turn, visits_before}
use Rattle.clk_sched.specs.Log.{visits_of, moment_of, turn}
use Rattle.clk_sched.specs.Laws.{Manner, in_order, with_heads, Follows}
use Rattle.clk_sched.specs.Laws.Stride.{passes_after, passes_of}
use Rattle.clk_sched.specs.Laws.Shaper.{has_passed, packets_passed, keeps_since_each}
use Rattle.clk_sched.specs.inside.Pulling.{as_turn, with_turn}
use Rattle.clk_sched.specs.inside.Session.{history_of}
use Rattle.clk_packet.specs.Lists.{In}
use Rattle.clk_sched.proofs.Classes.Bucket.{room-unpassed}

-- turns without those that have no visits
abbrev pub busy : List Turn → List Turn
busy [] = []
busy (t ∷ turns) = with_turn t.moment t.visits (busy turns)

-- the turns of a history are those with visits
pub history-busy : (earlier : List (List Visit)) (x : ℕ) → history_of earlier x ≡ busy (map (turn x) earlier)
history-busy [] x = refl
history-busy (p ∷ earlier) x = ap (with_turn (moment_of p) (visits_of x p)) (history-busy earlier x)

-- they are all in pulls that pass a test, where a node has no visits in the others
pub busy-filtered : (test : List Visit → Bool) (x : ℕ) (earlier : List (List Visit)) → ((p : List Visit) → In p earlier → test p ≡ false → visits_of x p ≡ [])
    → busy (map (turn x) earlier) ≡ busy (map (turn x) (filter test earlier))
busy-filtered test x [] none = refl
busy-filtered test x (p ∷ earlier) none = by_test (test p) (none p (inl refl)) (busy-filtered test x earlier (λ r m. none r (inr m)))
  where
    by_test : (b : Bool) → (b ≡ false → visits_of x p ≡ []) → busy (map (turn x) earlier) ≡ busy (map (turn x) (filter test earlier))
        → with_turn (moment_of p) (visits_of x p) (busy (map (turn x) earlier)) ≡ busy (map (turn x) (if b then p ∷ filter test earlier else filter test earlier))
    by_test b e rest = search rules

-- what is told from turns one by one, and stays at a turn without visits, is told from those with visits
pub busy-tells : {X : Type 0} (tell : List Turn → X) → ((t : Turn) (us ts : List Turn) → tell us ≡ tell ts → tell (t ∷ us) ≡ tell (t ∷ ts)) → ((moment : ℕ) (ts : List Turn) → tell (as_turn moment [] ∷ ts) ≡ tell ts)
    → (ts : List Turn) → tell (busy ts) ≡ tell ts
busy-tells tell step stays [] = refl
busy-tells tell step stays (t ∷ ts) = search (rules, (busy-tells tell step stays ts))

pub busy-visits : (ts : List Turn) → visits_before (busy ts) ≡ visits_before ts
busy-visits = busy-tells visits_before (λ t us ts e. ap (λ vs. reverse t.visits ++ vs) e) (λ moment ts. refl)

pub busy-passes : (tickets : List ℕ) (ts : List Turn) → passes_of tickets (busy ts) ≡ passes_of tickets ts
busy-passes tickets = busy-tells (passes_of tickets) (λ t us ts e. ap (λ passes. passes_after tickets passes t) e) (λ moment ts. refl)

pub busy-room : (rate burst moment : ℕ) (later ts : List Turn) → keeps_since_each rate burst moment later (busy ts) ≡ keeps_since_each rate burst moment later ts
busy-room rate burst moment later [] = refl
busy-room rate burst moment later (t ∷ ts) = by_visits t.moment t.visits (λ l. busy-room rate burst moment l ts)
  where
    by_visits : (past : ℕ) (visits : List Visit) → ((l : List Turn) → keeps_since_each rate burst moment l (busy ts) ≡ keeps_since_each rate burst moment l ts)
        → keeps_since_each rate burst moment later (with_turn past visits (busy ts)) ≡ keeps_since_each rate burst moment later (as_turn past visits ∷ ts)
    by_visits past [] same = same later ∙ sym (room-unpassed rate burst moment later (as_turn past []) ts refl)
    by_visits past (v ∷ visits) same =
        ap (λ room. (if has_passed (as_turn past (v ∷ visits)) then nat_le (packets_passed (as_turn past (v ∷ visits) ∷ later) + 1 + rate * past) (burst + rate * moment) else true) && room) (same (as_turn past (v ∷ visits) ∷ later))

-- a manner takes no notice of turns without visits, as far as it follows from turns
abbrev pub TakesNoNotice : Manner → Type 0
TakesNoNotice (in_order order) = (earlier : List Turn) (moment : ℕ) → order (busy earlier) moment ≡ order earlier moment
TakesNoNotice (with_heads turn_of covers) = ⊤

pub follows-busy : (m : Manner) (inputs : ℕ) (earlier : List Turn) (t : Turn) → TakesNoNotice m → Follows m inputs (busy earlier) t → Follows m inputs earlier t
follows-busy m inputs earlier t same h = search (rules, busy-visits)
