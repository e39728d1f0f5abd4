-- Whatever is given at its inputs, a scheduler has visits that its law allows, at most one to each input.
use Rattle.std.proofs.Common.{◌≡◌, ℕ, zero, suc, ◌+◌, ◌%◌, ◌<◌, ◌≤◌, if◌then◌else◌, Bool, true, false, not, List, [], ◌∷◌, reverse, Option, is_some, refl, sym, subst, arith, rules}
use Rattle.std.specs.Option.{option_or}
use Rattle.std.specs.List.{AllByRecursion}
use Rattle.std.proofs.lemmas.Bool.{false≢true}
use Rattle.clk_packet.specs.declared.packet.Packet.{Packet}
use Rattle.clk_sched.specs.declared.visit.Visit.{Visit}
use Rattle.clk_packet.specs.Scheduler.{Scheduler, drr, HasArguments}
use Rattle.clk_sched.specs.Turns.{Turn, EachAfter, IsPlain, UpToFirst, AsksInOrder, visits_before}
use Rattle.clk_sched.specs.Heads.{head_at, LooksAtHeads, EndAtPass}
use Rattle.clk_sched.specs.Laws.{manner, Follows, AllowsTurn}
use Rattle.clk_sched.specs.Laws.Deficit.{next_input, deficit_covers}
use Rattle.clk_sched.specs.Log.{asking}
use Rattle.clk_sched.specs.inside.Pulling.{AreApart, input_of, as_turn}
use Rattle.clk_sched.proofs.Lists.Members.{to-all, all-append, all-weaker}
use Rattle.clk_sched.proofs.Lists.Apart.{all-reverse}
use Rattle.clk_sched.proofs.Runs.Allowed.{AreWithin}
use Rattle.clk_sched.proofs.Classes.Table.{asks-right}
use Rattle.clk_sched.proofs.Classes.Orders.{IsOrderOf, IsPlace, IsBeyond, first-place, next-place, beyond-differs, beyond-lower}
use Rattle.clk_sched.specs.inside.Looking.{is_covered}

-- a node in a pull: the pull's number and moment, the node's own number, and what is given at each of its inputs
pub record Asker : Type 0 where
  pub number : ℕ
  pub moment : ℕ
  pub node : ℕ
  pub gives : ℕ → Option Packet

-- a visit of that node in that pull, which gets by asking what is given
pub record IsVisitBy (a : Asker) (v : Visit) : Type 0 where
  pub node : v.node ≡ a.node
  pub number : v.pull ≡ a.number
  pub moment : v.moment ≡ a.moment
  pub got : v.fresh ≡ true → v.got ≡ a.gives v.input

-- what a scheduler may do in that pull
pub record HasChosen (a : Asker) (class : Scheduler) (inputs : ℕ) (earlier : List Turn) : Type 0 where
  pub visits : List Visit
  pub allowed : AllowsTurn class inputs earlier (as_turn a.moment visits)
  pub apart : AreApart input_of visits
  pub each : AllByRecursion (IsVisitBy a) visits

-- the visit that asks at an input
abbrev ask : Asker → ℕ → Visit
ask a i = asking a.number a.moment a.node i (a.gives i)

-- asking in an order until one gives
abbrev walk : Asker → List ℕ → List Visit
walk a [] = []
walk a (i ∷ order) = ask a i ∷ (if is_some (a.gives i) then [] else walk a order)

walk-up_to : (a : Asker) (order : List ℕ) → UpToFirst order (walk a order)
walk-up_to a [] = tt
walk-up_to a (i ∷ order) = search (rules, (walk-up_to a order))

walk-all : (a : Asker) (P : Visit → Type 0) (order : List ℕ) → AllByRecursion (λ i. P (ask a i)) order → AllByRecursion P (walk a order)
walk-all a P [] h = tt
walk-all a P (i ∷ order) h = search (rules, (walk-all a P order h.1))

walk-apart : (a : Asker) (order : List ℕ) → AreApart (λ (i : ℕ). i) order → AreApart input_of (walk a order)
walk-apart a [] h = tt
walk-apart a (i ∷ order) h = search (rules, walk-all, (walk-apart a order h.1))

in-order : (a : Asker) (class : Scheduler) (inputs : ℕ) (earlier : List Turn) (order : List ℕ) → IsOrderOf inputs order
    → (AsksInOrder order (walk a order) → Follows (manner class inputs) inputs earlier (as_turn a.moment (walk a order))) → HasChosen a class inputs earlier
in-order a class inputs earlier order is follows =
    record {
      visits = walk a order;
      allowed = record {
        within = walk-all a (λ v. v.input < inputs) order is.within;
        follows = follows (record { plain = walk-all a IsPlain order (to-all _ order (λ i m. record { fresh = refl; passed = refl })); in_order = walk-up_to a order });
      };
      apart = walk-apart a order is.apart;
      each = walk-all a (IsVisitBy a) order (to-all _ order (λ i m. record { node = refl; number = refl; moment = refl; got = λ f. refl }));
    }

-- the visit to the input whose turn it is, at its head or by asking
abbrev look : Asker → (List Visit → ℕ) → (List Visit → ℕ → Packet → Bool) → List Visit → Visit
look a turn_of covers earlier =
    record {
      pull = a.number;
      moment = a.moment;
      got = option_or (head_at (turn_of earlier) earlier) (a.gives (turn_of earlier));
      node = a.node;
      input = turn_of earlier;
      fresh = not (is_some (head_at (turn_of earlier) earlier));
      passed = is_covered (covers earlier (turn_of earlier)) (option_or (head_at (turn_of earlier) earlier) (a.gives (turn_of earlier)));
    }

-- so many such visits, until one passes
abbrev looks : Asker → (List Visit → ℕ) → (List Visit → ℕ → Packet → Bool) → ℕ → List Visit → List Visit
looks a turn_of covers zero earlier = []
looks a turn_of covers (suc left) earlier =
    look a turn_of covers earlier ∷ (if (look a turn_of covers earlier).passed then [] else looks a turn_of covers left (look a turn_of covers earlier ∷ earlier))

looks-law : (a : Asker) (turn_of : List Visit → ℕ) (covers : List Visit → ℕ → Packet → Bool) (left : ℕ) (earlier : List Visit) → EachAfter (LooksAtHeads turn_of covers) earlier (looks a turn_of covers left earlier)
looks-law a turn_of covers zero earlier = tt
looks-law a turn_of covers (suc left) earlier = search (rules, (looks-law a turn_of covers left (look a turn_of covers earlier ∷ earlier)))

looks-end : (a : Asker) (turn_of : List Visit → ℕ) (covers : List Visit → ℕ → Packet → Bool) (left : ℕ) (earlier : List Visit) → EndAtPass left (looks a turn_of covers left earlier)
looks-end a turn_of covers zero earlier = refl
looks-end a turn_of covers (suc left) earlier = search (rules, (looks-end a turn_of covers left (look a turn_of covers earlier ∷ earlier)))

looks-by : (a : Asker) (turn_of : List Visit → ℕ) (covers : List Visit → ℕ → Packet → Bool) (left : ℕ) (earlier : List Visit) → AllByRecursion (IsVisitBy a) (looks a turn_of covers left earlier)
looks-by a turn_of covers zero earlier = tt
looks-by a turn_of covers (suc left) earlier = search (rules, false≢true, (looks-by a turn_of covers left (look a turn_of covers earlier ∷ earlier)))

-- the visits of a DRRSched go around its inputs
looks-around : (a : Asker) (covers : List Visit → ℕ → Packet → Bool) (n s left j : ℕ) (earlier : List Visit) → s < n → j + left ≤ n → IsPlace n s j (next_input n earlier)
    → AllByRecursion (λ v. IsBeyond n s j (input_of v)) (looks a (next_input n) covers left earlier) × AreApart input_of (looks a (next_input n) covers left earlier)
looks-around a covers n s zero j earlier l m h = (tt, tt)
looks-around a covers n s (suc left) j earlier l m h =
    by_passed v.passed (looks a (next_input n) covers left (v ∷ earlier))
    (λ e. looks-around a covers n s left (j + 1) (v ∷ earlier) l (omega arith) (subst (λ b. IsPlace n s (j + 1) (if b then v.input else (v.input + 1) % n)) (sym e) (next-place n s j v.input l (omega arith) h))) refl
  where
    v : Visit
    v = look a (next_input n) covers earlier

    here : IsBeyond n s j v.input
    here = record { places = j; above = omega arith; below = omega arith; place = h }

    by_passed : (b : Bool) (later : List Visit) → (v.passed ≡ false → AllByRecursion (λ w. IsBeyond n s (j + 1) (input_of w)) later × AreApart input_of later) → v.passed ≡ b
        → AllByRecursion (λ w. IsBeyond n s j (input_of w)) (v ∷ (if b then [] else later)) × AreApart input_of (v ∷ (if b then [] else later))
    by_passed b later rest e = search (rules, all-weaker, beyond-lower, beyond-differs, here, v)

next-below : (inputs : ℕ) (earlier : List Visit) → 1 ≤ inputs → AreWithin inputs earlier → next_input inputs earlier < inputs
next-below inputs earlier l h = search rules

before-within : (inputs : ℕ) (earlier : List Turn) → AllByRecursion (λ (t : Turn). AreWithin inputs t.visits) earlier → AreWithin inputs (visits_before earlier)
before-within inputs [] h = tt
before-within inputs (t ∷ earlier) h =
    all-append (λ (v : Visit). v.input < inputs) (reverse t.visits) (visits_before earlier) (all-reverse (λ (v : Visit). v.input < inputs) t.visits h.0) (before-within inputs earlier h.1)

around-inputs : (a : Asker) (quanta : List ℕ) (inputs : ℕ) (earlier : List Turn) → 1 ≤ inputs → AllByRecursion (λ (t : Turn). AreWithin inputs t.visits) earlier → HasChosen a (drr quanta) inputs earlier
around-inputs a quanta inputs earlier l were =
    let before = visits_before earlier in
    let s = next_input inputs before in
    let below : s < inputs = next-below inputs before l (before-within inputs earlier were) in
    let visits = looks a (next_input inputs) (deficit_covers quanta) inputs before in
    let all = looks-around a (deficit_covers quanta) inputs s inputs 0 before below (omega arith) (first-place inputs s below) in
    record {
      visits = visits;
      allowed = record {
        within = all-weaker (λ v. IsBeyond inputs s 0 (input_of v)) (λ (v : Visit). v.input < inputs) visits (λ v b. b.place.within) all.0;
        follows = (looks-law a (next_input inputs) (deficit_covers quanta) inputs before, looks-end a (next_input inputs) (deficit_covers quanta) inputs before);
      };
      apart = all.1;
      each = looks-by a (next_input inputs) (deficit_covers quanta) inputs before;
    }

pub choose : (a : Asker) (class : Scheduler) (inputs : ℕ) (earlier : List Turn) → 1 ≤ inputs → HasArguments class inputs → AllByRecursion (λ (t : Turn). AreWithin inputs t.visits) earlier
    → HasChosen a class inputs earlier
choose a (drr quanta) inputs earlier l arguments were = around-inputs a quanta inputs earlier l were
choose a class inputs earlier l arguments were = in-order a class inputs earlier _ ((asks-right class inputs l arguments).orders earlier a.moment) (λ h. h)
