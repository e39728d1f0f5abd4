-- A Shaper may ask at each moment that is later than those of its earlier turns: a tick gives a token at least.
use Rattle.std.proofs.Common.{◌≡◌, ℕ, ◌+◌, ◌*◌, ◌<◌, ◌≤◌, ◌&&◌, nat_le, if◌then◌else◌, Bool, true, false, List, [], ◌∷◌, is_some, refl, ap, ap₂, ◌∙◌, arith, rules}
use Rattle.std.specs.List.{AllByRecursion}
use Rattle.std.specs.Bool.{⊤}
use Rattle.std.proofs.lemmas.Bool.Decides.{nat_tests}
use Rattle.clk_packet.specs.Scheduler.{Scheduler, shaper, HasArguments}
use Rattle.clk_sched.specs.Turns.{Turn, EachAfter, AsksInOrder, giver}
use Rattle.clk_sched.specs.Laws.{AllowsTurn}
use Rattle.clk_sched.specs.Laws.Shaper.{has_passed, packets_passed, keeps_since_each, shaper_order}
use Rattle.clk_sched.proofs.Runs.Allowed.{onto}
use Rattle.clk_sched.proofs.Classes.Bucket.{room-unpassed, room-passed}
use Rattle.clk_sched.proofs.Conservation.Counted.{and-both}
use Rattle.clk_sched.proofs.Classes.Table.{MayAsk}
use Rattle.clk_sched.specs.inside.Holds.Shaper.{has_room}

-- each member holds after those before it, of a list with the latest first
abbrev pub EachBefore : {X : Type 0} → (List X → X → Type 0) → List X → Type 0
EachBefore Law [] = ⊤
EachBefore Law (x ∷ earlier) = Law earlier x × EachBefore Law earlier

pub each-before : {X : Type 0} (Law : List X → X → Type 0) (earlier xs : List X) → EachAfter Law earlier xs → EachBefore Law earlier → EachBefore Law (onto xs earlier)
each-before Law earlier [] h k = k
each-before Law earlier (x ∷ xs) h k = each-before Law (x ∷ earlier) xs h.1 (h.0, k)

-- a tick, or several, give a token at least
more-tokens : (rate m n : ℕ) → 1 ≤ rate → m < n → rate * m + 1 ≤ rate * n
more-tokens rate m n some l = search rules

room-later : (rate burst m n : ℕ) (later more earlier : List Turn) → 1 ≤ rate → m < n → packets_passed more ≡ packets_passed later + 1
    → keeps_since_each rate burst m later earlier ≡ true → keeps_since_each rate burst n more earlier ≡ true
room-later rate burst m n later more [] some l count e = refl
room-later rate burst m n later more (t ∷ earlier) some l count e =
    let both = and-both (if has_passed t then nat_le (packets_passed (t ∷ later) + 1 + rate * t.moment) (burst + rate * m) else true) (keeps_since_each rate burst m (t ∷ later) earlier) e in
    ap₂ (λ a b. a && b) (by_passed (has_passed t) both.0) (room-later rate burst m n (t ∷ later) (t ∷ more) earlier some l (search rules) both.1)
  where
    by_passed : (b : Bool) → (if b then nat_le ((if b then packets_passed later + 1 else packets_passed later) + 1 + rate * t.moment) (burst + rate * m) else true) ≡ true
        → (if b then nat_le ((if b then packets_passed more + 1 else packets_passed more) + 1 + rate * t.moment) (burst + rate * n) else true) ≡ true
    by_passed b f = search rules

-- a Shaper that gave had room
gave-room : (rate burst : ℕ) (earlier : List Turn) (t : Turn) → AsksInOrder (shaper_order rate burst earlier t.moment) t.visits → is_some (giver t.visits) ≡ true → has_room rate burst t.moment earlier ≡ true
gave-room rate burst earlier t h e = search rules

has-room : (rate burst w n : ℕ) (earlier : List Turn) → 1 ≤ rate → 1 ≤ burst → EachBefore (AllowsTurn (shaper rate burst) w) earlier → AllByRecursion (λ (t : Turn). t.moment < n) earlier → has_room rate burst n earlier ≡ true
has-room rate burst w n [] some full h l = refl
has-room rate burst w n (t ∷ earlier) some full h l = by_passed (has_passed t) refl (has-room rate burst w n earlier some full h.1 l.1)
  where
    by_passed : (b : Bool) → has_passed t ≡ b → has_room rate burst n earlier ≡ true → has_room rate burst n (t ∷ earlier) ≡ true
    by_passed false e rest = room-unpassed rate burst n [] t earlier e ∙ rest
    by_passed true e rest =
        let more = more-tokens rate t.moment n some l.0 in
        let first : nat_le (0 + 2 + rate * t.moment) (burst + rate * n) ≡ true = grind (arith, nat_tests) in
        room-passed rate burst n [] t earlier e
        ∙ ap₂ (λ a b. a && b) first (room-later rate burst t.moment n [] (t ∷ []) earlier some l.0 (ap (λ passed. if passed then 0 + 1 else 0) e) (gave-room rate burst earlier t h.0.follows e))

-- after earlier turns, each at an earlier moment, a scheduler may ask
pub may-ask : (class : Scheduler) (w n : ℕ) (earlier : List Turn) → HasArguments class w → EachBefore (AllowsTurn class w) earlier → AllByRecursion (λ (t : Turn). t.moment < n) earlier → MayAsk class earlier n
may-ask class w n earlier args h l = search (rules, has-room)
