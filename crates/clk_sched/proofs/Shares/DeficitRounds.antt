-- A DRRSched goes by deficit round robin.
use Rattle.std.proofs.Common.{◌≡◌, ℕ, ◌+◌, ◌-◌, ◌*◌, ◌%◌, ◌≤◌, ◌==◌, Bool, true, false, nat_le, if◌then◌else◌, List, [], ◌∷◌, Option, Some, None, refl, sym, ap, ◌∙◌, subst, mul-add, arith}
use Rattle.std.proofs.lemmas.Bool.Decides.{nat_tests}
use Rattle.clk_packet.specs.declared.packet.Packet.{Packet}
use Rattle.clk_sched.specs.declared.visit.Visit.{Visit}
use Rattle.clk_sched.specs.DeficitRounds.{Round, first_round, may_pass, stays_with, moves_on_with, round_after, round_of, KeepsToRound, GoesByRounds}
use Rattle.clk_sched.specs.Laws.Deficit.{next_input, arrives, arrivals, passed_bytes, quantum_at, allowed_bytes, deficit_covers}
use Rattle.clk_sched.specs.Turns.{Turn, EachAfter, all_visits}
use Rattle.clk_sched.proofs.Runs.Allowed.{onto, onto-reverse, each-split}
use Rattle.clk_sched.proofs.Shares.DeficitShares.{IsDeficitVisit}
use Rattle.clk_sched.specs.inside.Looking.{is_covered}

-- A round tells of these visits: whose turn is next, and what each input had left of its arrivals.
record Tells (quanta : List ℕ) (inputs : ℕ) (earlier : List Visit) (r : Round) : Type 0 where
  turn : r.input ≡ next_input inputs earlier
  is_new : (if r.is_new then 1 else 0) ≡ arrives earlier
  left : (i : ℕ) → passed_bytes i earlier + r.counter i ≡ quantum_at quanta i * arrivals i earlier

times : (b : Bool) (q : ℕ) → (if b then q else 0) ≡ q * (if b then 1 else 0)
times true q = omega arith
times false q = omega arith

module _ (quanta : List ℕ) (inputs : ℕ) (earlier : List Visit) (r : Round) (tells : Tells quanta inputs earlier r) where
  -- what may pass is what is left of what is allowed
  left-allowed : passed_bytes r.input earlier + may_pass quanta r ≡ allowed_bytes quanta earlier r.input
  left-allowed =
      let q = quantum_at quanta r.input in
      let here = tells.left r.input in
      let new : (if r.is_new then q else 0) ≡ q * arrives earlier = times r.is_new q ∙ ap (λ n. q * n) tells.is_new in
      let sum = mul-add q (arrives earlier) (arrivals r.input earlier) in
      omega (arith, here, new, sum)

  covers-same : (p : Packet) → deficit_covers quanta earlier r.input p ≡ nat_le p.length (may_pass quanta r)
  covers-same p = let left = left-allowed in grind (arith, nat_tests, left)

  module _ (v : Visit) (is : IsDeficitVisit quanta inputs earlier v) where
    in_turn : v.input ≡ r.input
    in_turn = is.in_turn ∙ sym tells.turn

    keeps : KeepsToRound quanta r v
    keeps = record { in_turn = in_turn; passes = is.passes ∙ ap (λ i. is_covered (deficit_covers quanta earlier i) v.got) in_turn ∙ by_got v.got }
      where
        by_got : (o : Option Packet) → is_covered (deficit_covers quanta earlier r.input) o ≡ is_covered (λ (p : Packet). nat_le p.length (may_pass quanta r)) o
        by_got None = refl
        by_got (Some p) = covers-same p

    -- the turn after a visit, by whether it passed
    turn_after : (passed : Bool) → v.passed ≡ passed → (if passed then r.input else (r.input + 1) % inputs) ≡ next_input inputs (v ∷ earlier)
    turn_after passed e = ap (λ n. if passed then n else (n + 1) % inputs) (sym in_turn) ∙ ap (λ b. if b then v.input else (v.input + 1) % inputs) (sym e)

    is_new_after : (passed : Bool) → v.passed ≡ passed → (if passed then 0 else 1) ≡ arrives (v ∷ earlier)
    is_new_after passed e = ap (λ b. if b then 0 else 1) (sym e)

    -- what an input has left after a visit that leaves this counter to the input whose turn it is
    left_after : (n : ℕ) → passed_bytes r.input (v ∷ earlier) + n ≡ quantum_at quanta r.input * arrivals r.input (v ∷ earlier)
        → (i : ℕ) → passed_bytes i (v ∷ earlier) + (if i == r.input then n else r.counter i) ≡ quantum_at quanta i * arrivals i (v ∷ earlier)
    left_after n here i = by_input (i == r.input) refl
      where
        by_input : (b : Bool) → (i == r.input) ≡ b → passed_bytes i (v ∷ earlier) + (if b then n else r.counter i) ≡ quantum_at quanta i * arrivals i (v ∷ earlier)
        by_input true e =
            let same : r.input ≡ i = grind (arith, nat_tests, e) in
            subst (λ j. passed_bytes j (v ∷ earlier) + n ≡ quantum_at quanta j * arrivals j (v ∷ earlier)) same here
        by_input false e =
            let at = in_turn in
            let other : (v.input == i) ≡ false = grind (arith, nat_tests, e, at) in
            rw other (tells.left i)

    tells-on : Tells quanta inputs (v ∷ earlier) (round_after quanta inputs r v.got)
    tells-on = by_got v.got refl (keeps.passes)
      where
        here_is : (v.input == r.input) ≡ true
        here_is = let at = in_turn in grind (arith, nat_tests, at)

        by_got : (o : Option Packet) → v.got ≡ o → v.passed ≡ is_covered (λ (p : Packet). nat_le p.length (may_pass quanta r)) o → Tells quanta inputs (v ∷ earlier) (round_after quanta inputs r o)
        by_got None got passed = record { turn = turn_after false passed; is_new = is_new_after false passed; left = left_after 0 (rw (here_is, got) (omega arith)) }
        by_got (Some p) got passed = by_length (nat_le p.length (may_pass quanta r)) refl passed
          where
            by_length : (b : Bool) → nat_le p.length (may_pass quanta r) ≡ b → v.passed ≡ b
                → Tells quanta inputs (v ∷ earlier) (if b then stays_with (may_pass quanta r - p.length) r else moves_on_with inputs (may_pass quanta r) r)
            by_length true e passed = record {
              turn = turn_after true passed;
              is_new = is_new_after true passed;
              left = left_after (may_pass quanta r - p.length) (rw (here_is, got, passed) (let left = left-allowed in let fits : p.length ≤ may_pass quanta r = grind (arith, nat_tests, e) in omega (arith, left, fits)));
            }
            by_length false e passed = record {
              turn = turn_after false passed;
              is_new = is_new_after false passed;
              left = left_after (may_pass quanta r) (rw (here_is, got, passed) (let left = left-allowed in omega (arith, left)));
            }

tells-first : (quanta : List ℕ) (inputs : ℕ) → Tells quanta inputs [] first_round
tells-first quanta inputs = record { turn = refl; is_new = refl; left = λ i. omega arith }

tells-all : (quanta : List ℕ) (inputs : ℕ) (earlier visits : List Visit) → EachAfter (IsDeficitVisit quanta inputs) earlier visits → Tells quanta inputs earlier (round_of quanta inputs earlier)
    → Tells quanta inputs (onto visits earlier) (round_of quanta inputs (onto visits earlier))
tells-all quanta inputs earlier [] h tells = tells
tells-all quanta inputs earlier (v ∷ visits) h tells = tells-all quanta inputs (v ∷ earlier) visits h.1 (tells-on quanta inputs earlier (round_of quanta inputs earlier) tells v h.0)

pub goes-by-rounds : (quanta : List ℕ) (inputs : ℕ) (turns : List Turn) → EachAfter (IsDeficitVisit quanta inputs) [] (all_visits turns) → GoesByRounds quanta inputs turns
goes-by-rounds quanta inputs turns run before after v e =
    let parts = each-split (IsDeficitVisit quanta inputs) [] before (v ∷ after) (subst (EachAfter (IsDeficitVisit quanta inputs) []) e run) in
    subst (λ earlier. KeepsToRound quanta (round_of quanta inputs earlier) v) (onto-reverse before)
    (keeps quanta inputs (onto before []) (round_of quanta inputs (onto before [])) (tells-all quanta inputs [] before parts.0 (tells-first quanta inputs)) v parts.1.0)
