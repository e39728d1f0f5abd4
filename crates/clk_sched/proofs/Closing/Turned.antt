-- A turn of each class goes to each of its inputs once at most, and to all of them where it gives none.
use Rattle.std.proofs.Common.{◌≡◌, ◌≢◌, ℕ, zero, suc, ◌+◌, ◌%◌, ◌<◌, ◌≤◌, if◌then◌else◌, Bool, true, false, List, [], ◌∷◌, length, Option, Some, None, is_some, MatchOption, MatchBool, refl, sym, ap, ◌∙◌, subst, arith, rules}
use Rattle.std.specs.List.{AllByRecursion}
use Rattle.clk_packet.specs.declared.packet.Packet.{Packet}
use Rattle.clk_sched.specs.declared.visit.Visit.{Visit}
use Rattle.clk_packet.specs.Scheduler.{Scheduler, drr, HasArguments}
use Rattle.clk_sched.specs.Turns.{Turn, EachAfter, IsPlain, UpToFirst, AsksInOrder}
use Rattle.clk_sched.specs.Heads.{LooksAtHeads, EndAtPass}
use Rattle.clk_sched.specs.Log.{result_of}
use Rattle.clk_sched.specs.Laws.{AllowsTurn, manner}
use Rattle.clk_sched.specs.Laws.Deficit.{next_input}
use Rattle.clk_sched.specs.inside.Pulling.{AreApart, input_of}
use Rattle.clk_sched.proofs.Lists.Members.{all-weaker}
use Rattle.clk_sched.proofs.Runs.Allowed.{AreWithin}
use Rattle.clk_sched.proofs.Runs.HeadsByManner.{PassesLast, turn-last}
use Rattle.clk_sched.proofs.Classes.Table.{MayAsk, asks-right}
use Rattle.clk_sched.proofs.Classes.Orders.{IsPlace, IsBeyond, first-place, next-place, beyond-differs, beyond-lower}
use Rattle.clk_sched.proofs.Closing.Visited.{one_if, count}

abbrev pub passes : Visit → Bool
passes v = v.passed

-- a turn of a node with so many inputs: each is visited once at most, and what passed is the result
pub record IsTurn (w : ℕ) (visits : List Visit) : Type 0 where
  pub within : AreWithin w visits
  pub apart : AreApart input_of visits
  pub passed : count passes visits ≡ one_if (is_some (result_of visits))

-- what passed is a packet
abbrev PassSome : List Visit → Type 0
PassSome visits = AllByRecursion (λ (v : Visit). v.passed ≡ true → is_some v.got ≡ true) visits

passed-result : (visits : List Visit) → PassesLast visits → PassSome visits → count passes visits ≡ one_if (is_some (result_of visits))
passed-result [] l h = refl
passed-result (v ∷ visits) l h = search (rules, (passed-result visits l.1 h.1))

plain-pass : (visits : List Visit) → AllByRecursion IsPlain visits → PassSome visits
plain-pass [] h = tt
plain-pass (v ∷ visits) h = ((λ e. sym h.0.passed ∙ e), plain-pass visits h.1)

looked-pass : (turn_of : List Visit → ℕ) (covers : List Visit → ℕ → Packet → Bool) (earlier visits : List Visit) → EachAfter (LooksAtHeads turn_of covers) earlier visits → PassSome visits
looked-pass turn_of covers earlier [] h = tt
looked-pass turn_of covers earlier (v ∷ visits) h = search (rules, (looked-pass turn_of covers (v ∷ earlier) visits h.1))

-- visits in an order
in_order-inputs : (P : ℕ → Type 0) (order : List ℕ) (visits : List Visit) → UpToFirst order visits → AllByRecursion P order → AllByRecursion (λ (v : Visit). P v.input) visits
in_order-inputs P [] [] u h = tt
in_order-inputs P [] (v ∷ visits) u h = absurd u
in_order-inputs P (i ∷ order) [] u h = absurd u
in_order-inputs P (i ∷ order) (v ∷ visits) u h = (subst P (sym u.0) h.0, by_got v.got u.1 (λ k. in_order-inputs P order visits k h.1))
  where
    by_got : (o : Option Packet) → MatchOption o (UpToFirst order visits) (λ _. visits ≡ []) → (UpToFirst order visits → AllByRecursion (λ (v : Visit). P v.input) visits) → AllByRecursion (λ (v : Visit). P v.input) visits
    by_got o k rest = search rules

in_order-apart : (order : List ℕ) (visits : List Visit) → UpToFirst order visits → AreApart (λ (i : ℕ). i) order → AreApart input_of visits
in_order-apart [] [] u h = tt
in_order-apart [] (v ∷ visits) u h = absurd u
in_order-apart (i ∷ order) [] u h = absurd u
in_order-apart (i ∷ order) (v ∷ visits) u h = by_got v.got u.1 (λ k. in_order-apart order visits k h.1)
  where
    by_got : (o : Option Packet) → MatchOption o (UpToFirst order visits) (λ _. visits ≡ []) → (UpToFirst order visits → AreApart input_of visits) → AreApart input_of (v ∷ visits)
    by_got None k rest = (
      all-weaker (λ (x : Visit). x.input ≢ i) (λ (x : Visit). x.input ≢ v.input) visits (λ x d e. d (e ∙ u.0)) (in_order-inputs (λ j. j ≢ i) order visits k h.0),
      rest k,
    )
    by_got (Some p) k rest = subst (λ l. AreApart input_of (v ∷ l)) (sym k) (tt, tt)

in_order-all : (order : List ℕ) (visits : List Visit) → AllByRecursion IsPlain visits → UpToFirst order visits → result_of visits ≡ None → length visits ≡ length order
in_order-all [] [] p u e = refl
in_order-all [] (v ∷ visits) p u e = absurd u
in_order-all (i ∷ order) [] p u e = absurd u
in_order-all (i ∷ order) (v ∷ visits) p u e = by_cases v.passed v.got p.0.passed u.1 e (λ k g. in_order-all order visits p.1 k g)
  where
    by_cases : (b : Bool) (o : Option Packet) → b ≡ is_some o → MatchOption o (UpToFirst order visits) (λ _. visits ≡ []) → (if b then o else result_of visits) ≡ None
        → (UpToFirst order visits → result_of visits ≡ None → length visits ≡ length order) → suc (length visits) ≡ suc (length order)
    by_cases b o f k g rest = search rules

-- visits by whose turn it is, around the inputs
heads-around : (w s j n : ℕ) (covers : List Visit → ℕ → Packet → Bool) (earlier visits : List Visit) → s < w → j + n ≤ w → EachAfter (LooksAtHeads (next_input w) covers) earlier visits → EndAtPass n visits
    → IsPlace w s j (next_input w earlier) → AllByRecursion (λ (v : Visit). IsBeyond w s j v.input) visits × AreApart input_of visits
heads-around w s j zero covers earlier visits l m h e at = subst (λ vs. AllByRecursion (λ (v : Visit). IsBeyond w s j v.input) vs × AreApart input_of vs) (sym e) (tt, tt)
heads-around w s j (suc n) covers earlier [] l m h e at = absurd e
heads-around w s j (suc n) covers earlier (v ∷ visits) l m h e at = by_passed v.passed refl e (λ k next. heads-around w s (j + 1) n covers (v ∷ earlier) visits l (omega arith) h.1 k next)
  where
    here : IsPlace w s j v.input
    here = subst (IsPlace w s j) (sym h.0.in_turn) at

    first : IsBeyond w s j v.input
    first = record { places = j; above = omega arith; below = omega arith; place = here }

    by_passed : (b : Bool) → v.passed ≡ b → MatchBool b (visits ≡ []) (EndAtPass n visits)
        → (EndAtPass n visits → IsPlace w s (j + 1) (next_input w (v ∷ earlier)) → AllByRecursion (λ (v : Visit). IsBeyond w s (j + 1) v.input) visits × AreApart input_of visits)
        → AllByRecursion (λ (v : Visit). IsBeyond w s j v.input) (v ∷ visits) × AreApart input_of (v ∷ visits)
    by_passed true f k again = subst (λ vs. AllByRecursion (λ (v : Visit). IsBeyond w s j v.input) (v ∷ vs) × AreApart input_of (v ∷ vs)) (sym k) ((first, tt), (tt, tt))
    by_passed false f k again =
        let rest =
        again k
        (subst (IsPlace w s (j + 1)) (sym (ap (λ b. if b then v.input else (v.input + 1) % w) f)) (next-place w s j v.input l (omega arith) here))
        in (
          (first, all-weaker (λ (x : Visit). IsBeyond w s (j + 1) x.input) (λ (x : Visit). IsBeyond w s j x.input) visits (λ x b. beyond-lower w s j x.input b) rest.0),
          (all-weaker (λ (x : Visit). IsBeyond w s (j + 1) x.input) (λ (x : Visit). x.input ≢ v.input) visits (λ x b. beyond-differs w s j v.input x.input (omega arith) here b) rest.0, rest.1),
        )

heads-apart : (w : ℕ) (covers : List Visit → ℕ → Packet → Bool) (earlier visits : List Visit) → AreWithin w visits → EachAfter (LooksAtHeads (next_input w) covers) earlier visits → EndAtPass w visits → AreApart input_of visits
heads-apart w covers earlier [] l h e = tt
heads-apart w covers earlier (v ∷ visits) l h e =
    let below : next_input w earlier < w = subst (λ i. i < w) h.0.in_turn l.0 in
    (heads-around w (next_input w earlier) 0 w covers earlier (v ∷ visits) below (omega arith) h e (first-place w (next_input w earlier) below)).1

heads-all : (n : ℕ) (visits : List Visit) → PassSome visits → EndAtPass n visits → result_of visits ≡ None → length visits ≡ n
heads-all zero visits p e f = ap length e
heads-all (suc n) [] p e f = absurd e
heads-all (suc n) (v ∷ visits) p e f = by_passed v.passed p.0 e f (λ k r. heads-all n visits p.1 k r)
  where
    by_passed : (b : Bool) → (b ≡ true → is_some v.got ≡ true) → MatchBool b (visits ≡ []) (EndAtPass n visits) → (if b then v.got else result_of visits) ≡ None
        → (EndAtPass n visits → result_of visits ≡ None → length visits ≡ n) → suc (length visits) ≡ suc n
    by_passed b g k r rest = search rules

plain-turn : (w : ℕ) (order : List ℕ) (visits : List Visit) → AreWithin w visits → AsksInOrder order visits → PassesLast visits → AreApart (λ (i : ℕ). i) order → IsTurn w visits
plain-turn w order visits l h p a = search (rules, in_order-apart, passed-result, plain-pass)

pub is-turn : (class : Scheduler) (w : ℕ) (earlier : List Turn) (t : Turn) → 1 ≤ w → HasArguments class w → AllowsTurn class w earlier t → IsTurn w t.visits
is-turn (drr quanta) w earlier t some args h = search (rules, heads-apart, passed-result, turn-last, looked-pass)
is-turn class w earlier t some args h =
    plain-turn w _ t.visits h.within h.follows (turn-last (manner class w) w earlier t h.follows) ((asks-right class w some args).orders earlier t.moment).apart

-- a turn that gave none visited all inputs
pub all-visited : (class : Scheduler) (w : ℕ) (earlier : List Turn) (t : Turn) → 1 ≤ w → HasArguments class w → MayAsk class earlier t.moment → AllowsTurn class w earlier t → result_of t.visits ≡ None → length t.visits ≡ w
all-visited class w earlier t some args may h e = search (rules, heads-all, looked-pass, in_order-all, asks-right)
