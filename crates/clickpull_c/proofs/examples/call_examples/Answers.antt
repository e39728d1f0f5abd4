use Rattle.std.proofs.Common.{◌≡◌, ℕ, ◌+◌, ◌<◌, zero, suc, true, List, [], ◌∷◌, ◌++◌, length, Some, slice_get, inl, refl, sym, ap, ◌∙◌, subst, arith, lit≤, lit<}
use Rattle.std.proofs.lemmas.List.{length-append}
use Rattle.clk_sched.specs.Log.{asking, visits_of, result_of}
use Rattle.clk_sched.specs.Examples.{look}
use Rattle.clk_router.specs.Events.{pulled}
use Rattle.clk_router.specs.Course.{Course}
use Rattle.clickpull_c.specs.Calls.{EndsPulls, full, gave_none, at_end, empty, DrainPull, PullsNext, HasRoom, with_departure}
use Rattle.clk_router.specs.Chains.{IsChain}
use Rattle.clickpull_c.specs.Examples.{p0_0, fresh, fresh_pulled, one_out, one_out_pulled, two_wait, first_out, first_out_pulled}
use Rattle.clickpull_c.proofs.examples.call_examples.Goals as goal

pub returns-clause-drains_nothing : goal.returns-clause-drains_nothing
returns-clause-drains_nothing c = record {
  pulls = [];
  made = refl;
  few = omega arith;
  room = λ made within. absurd (omega (arith, within));
  within = omega arith;
  gave = refl;
  others = refl;
  ends = empty refl refl;
}

pub returns-clause-not_pulled_with_none_left : goal.returns-clause-not_pulled_with_none_left
returns-clause-not_pulled_with_none_left c = λ drained. none drained.pulls drained.made
  where
    none : (pulls : List DrainPull) → IsChain (PullsNext 0) fresh pulls fresh_pulled → ⊥
    none [] same = let e : 1 ≡ 0 = ap (λ (c : Course). length c.events) same in absurd (omega (arith, e))
    none (p ∷ pulls) chain = let left : 0 < 0 = chain.1.left in absurd (omega (arith, left))

pub returns-clause-drains_one : goal.returns-clause-drains_one
returns-clause-drains_one c = record {
  pulls = record { moment = 1; got = Some p0_0 } ∷ [];
  made = (
    first_out,
    record {
      left = lit< tt;
      moment = refl;
      pulled = record { visits = look 0 1 1 0 true (Some p0_0) true ∷ asking 0 1 0 0 (Some p0_0) ∷ []; result = refl; goes_on = refl };
    },
    refl,
  );
  few = lit≤ tt;
  room = room;
  within = lit≤ tt;
  gave = refl;
  others = refl;
  ends = full refl (lit< tt) (inl refl);
}
  where
    room : HasRoom 1 (record { moment = 1; got = Some p0_0 } ∷ [])
    room zero within = lit< tt
    room (suc made) within = absurd (omega (arith, within))

-- a chain of pulls adds an event for each
grows : (device : ℕ) (old new : Course) (pulls : List DrainPull) → IsChain (PullsNext device) old pulls new → length new.events ≡ length old.events + length pulls
grows device old new [] same = let e = ap (λ (c : Course). length c.events) same in omega (arith, e)
grows device old new (p ∷ pulls) chain =
    let rest = grows device chain.0 new pulls chain.2 in
    let one = ap (λ (c : Course). length c.events) chain.1.pulled.goes_on ∙ length-append old.events (pulled device p.moment chain.1.pulled.visits ∷ []) in
    omega (arith, rest, one)

pub returns-clause-not_pulled_with_no_place : goal.returns-clause-not_pulled_with_no_place
returns-clause-not_pulled_with_no_place c = λ drained. none drained.pulls drained.made drained.room
  where
    none : (pulls : List DrainPull) → IsChain (PullsNext 0) two_wait pulls first_out_pulled → HasRoom 1 pulls → ⊥
    none [] chain room = let e : 4 ≡ 2 + 0 = grows 0 two_wait first_out_pulled [] chain in absurd (omega (arith, e))
    none (p ∷ []) chain room = let e : 4 ≡ 2 + 1 = grows 0 two_wait first_out_pulled (p ∷ []) chain in absurd (omega (arith, e))
    none (p ∷ q ∷ []) chain room =
        let visits = chain.1.pulled.visits in
        let third : Some (pulled 0 1 (look 0 1 1 0 true (Some p0_0) true ∷ asking 0 1 0 0 (Some p0_0) ∷ [])) ≡ Some (pulled 0 p.moment visits) =
        ap (λ (c : Course). slice_get c.events 2) (chain.2.2 ∙ chain.2.1.pulled.goes_on)
        ∙ ap (λ (c : Course). slice_get (c.events ++ pulled 0 q.moment chain.2.1.pulled.visits ∷ []) 2) chain.1.pulled.goes_on in
        let its : look 0 1 1 0 true (Some p0_0) true ∷ asking 0 1 0 0 (Some p0_0) ∷ [] ≡ visits = cc in
        let got : Some p0_0 ≡ p.got = ap (λ v. result_of (visits_of 0 v)) its ∙ chain.1.pulled.result in
        let none : 1 < 1 = subst (λ g. length (with_departure p.moment g []) < 1) (sym got) (room 1 (lit< tt)) in
        absurd (omega (arith, none))
    none (p ∷ q ∷ r ∷ pulls) chain room =
        let e : 4 ≡ 2 + length (p ∷ q ∷ r ∷ pulls) = grows 0 two_wait first_out_pulled (p ∷ q ∷ r ∷ pulls) chain in
        absurd (omega (arith, e))

pub returns-clause-pulls_one : goal.returns-clause-pulls_one
returns-clause-pulls_one c = record {
  last = one_out;
  within = lit≤ tt;
  gave = (one_out, record { packet = p0_0; pulled = record { visits = asking 0 1 0 0 (Some p0_0) ∷ []; result = refl; goes_on = refl }; filled_is = refl }, refl);
  others = refl;
  ends = full refl refl;
}

pub returns-clause-not_pulled_once_more : goal.returns-clause-not_pulled_once_more
returns-clause-not_pulled_once_more c = λ often.
    let two : length often.last.events ≡ 2 = ap (λ (c : Course). length c.events) (often.gave.2 ∙ often.gave.1.pulled.goes_on) in
    none often.last two often.ends
  where
    none : (last : Course) → length last.events ≡ 2 → EndsPulls 0 1 1 last one_out_pulled 1 → ⊥
    none last two (full filled same) = let e : 3 ≡ length last.events = ap (λ (c : Course). length c.events) same in absurd (omega (arith, e, two))
    none last two (gave_none low gives) = absurd (omega (arith, low))
    none last two (at_end some ended same) = let e : 3 ≡ length last.events = ap (λ (c : Course). length c.events) same in absurd (omega (arith, e, two))
