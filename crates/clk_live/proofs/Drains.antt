-- Pulls of a drain so far, and one more.
use Rattle.std.proofs.Common.{◌≡◌, ℕ, ◌+◌, ◌-◌, ◌<◌, ◌≤◌, ◌==◌, Bool, true, false, List, [], ◌∷◌, ◌++◌, length, length-append, take, drop, Option, Some, None, refl, sym, ap, ◌∙◌, subst, arith}
use Rattle.std.proofs.lemmas.Bool.Decides.{nat_tests}
use Rattle.std.proofs.lemmas.List.{length-take-le, take-append-le, take_all, drop-drop}
use Rattle.clk_router.proofs.Callers.Chains.{chain-more}
use Rattle.clk_live.specs.declared.draining.Departed.{Departed}
use Rattle.clk_live.specs.declared.pulling.Emitted.{Emitted}
use Rattle.clk_live.specs.State.{Seen}
use Rattle.clk_live.specs.Draining.{DrainPull, PullsNext, with_departed, departed_of}
use Rattle.clk_live.specs.inside.Given.{DrainedSoFar}

-- what a pull emitted stands before equal lists
on-top : (moment : ℕ) (got : Option Emitted) (pull : DrainPull) (longer shorter : List Departed) → longer ≡ shorter ++ with_departed pull.moment pull.got [] → with_departed moment got longer ≡ with_departed moment got shorter ++ with_departed pull.moment pull.got []
on-top moment None pull longer shorter same = same
on-top moment (Some e) pull longer shorter same = ap (λ l. record { moment = moment; packet = e.packet; token = e.token } ∷ l) same

-- what one more pull emitted stands last
departed-more : (pulls : List DrainPull) (pull : DrainPull) → departed_of (pulls ++ pull ∷ []) ≡ departed_of pulls ++ with_departed pull.moment pull.got []
departed-more [] pull = refl
departed-more (p ∷ ps) pull = on-top p.moment p.got pull (departed_of (ps ++ pull ∷ [])) (departed_of ps) (departed-more ps pull)

-- one more pull has room if fewer packets were emitted so far than there are places
room-more : (places : ℕ) (pulls : List DrainPull) (pull : DrainPull) → ((n : ℕ) → n < length pulls → length (departed_of (take n pulls)) < places) → length (departed_of pulls) < places
    → (n : ℕ) → n < length (pulls ++ pull ∷ []) → length (departed_of (take n (pulls ++ pull ∷ []))) < places
room-more places pulls pull room low n within =
    let longer = length-append pulls (pull ∷ []) in
    let up_to : n ≤ length pulls = omega (arith, longer) in
    subst (λ l. length (departed_of l) < places) (sym (take-append-le n pulls (pull ∷ []) up_to)) (by_test (n == length pulls) refl)
  where
    by_test : (b : Bool) → (n == length pulls) ≡ b → length (departed_of (take n pulls)) < places
    by_test true e =
        let all : length pulls ≤ n = grind (arith, nat_tests) in
        subst (λ l. length (departed_of l) < places) (sym (take_all n pulls all)) low
    by_test false e =
        let longer = length-append pulls (pull ∷ []) in
        let other : n < length pulls = grind (arith, nat_tests, longer) in
        room n other

pub drained-none : (device : ℕ) (old : Seen) (before : List Departed) → DrainedSoFar device old old before before 0 0
drained-none device old before = record { pulls = []; chain = refl; count = refl; room = λ n low. absurd (omega (arith, low)); within = omega arith; many = refl; gave = refl; others = refl }

pub drained-more : (device : ℕ) (old mid new : Seen) (before filled filled' : List Departed) (made given given' : ℕ) (pull : DrainPull) → given < length filled → DrainedSoFar device old mid before filled made given → PullsNext device mid pull new
    → length filled' ≡ length filled → (given ≤ given') × (given' ≤ length filled) → take given' filled' ≡ take given filled ++ with_departed pull.moment pull.got [] → drop given' filled' ≡ drop given' filled
    → DrainedSoFar device old new before filled' (made + 1) given'
drained-more device old mid new before filled filled' made given given' pull low so_far one same up gave others =
    let longer : length (so_far.pulls ++ pull ∷ []) ≡ made + 1 = length-append so_far.pulls (pull ∷ []) ∙ ap (λ n. n + 1) so_far.count in
    let front : length (take given filled) ≡ given = length-take-le given filled (omega (arith, low)) in
    let few : length (departed_of so_far.pulls) ≡ given = ap length (sym so_far.gave) ∙ front in
    record {
      pulls = so_far.pulls ++ pull ∷ [];
      chain = chain-more (PullsNext device) old mid new so_far.pulls pull so_far.chain one;
      count = longer;
      room = room-more (length before) so_far.pulls pull so_far.room (omega (arith, few, low, so_far.many));
      within = omega (arith, up, so_far.many);
      many = same ∙ so_far.many;
      gave = gave ∙ ap (λ l. l ++ with_departed pull.moment pull.got []) so_far.gave ∙ sym (departed-more so_far.pulls pull);
      others = others ∙ later filled before given given' so_far.others up.0;
    }
  where
    -- what agrees from a place on agrees from a later one on
    later : (xs ys : List Departed) (m n : ℕ) → drop m xs ≡ drop m ys → m ≤ n → drop n xs ≡ drop n ys
    later xs ys m n e le =
        let all : m + (n - m) ≡ n = omega (arith, le) in
        ap (λ k. drop k xs) (sym all) ∙ sym (drop-drop (n - m) m xs) ∙ ap (drop (n - m)) e ∙ drop-drop (n - m) m ys ∙ ap (λ k. drop k ys) all
