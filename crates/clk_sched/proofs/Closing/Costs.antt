-- What is left at one input of a scheduler, and what it may cost yet: for each packet below an input of a DRRSched the rounds that it may
-- take there, and for each head the visits that are enough for it. This number never grows, and falls with each closing pull that gives
-- none while something is left.
use Rattle.std.proofs.lemmas.Grind.{common_steps}
use Rattle.std.proofs.Common.{◌≡◌, ◌⊎◌, ℕ, zero, suc, ◌+◌, ◌*◌, ◌<◌, ◌≤◌, nat_le, if◌then◌else◌, Bool, true, false, not, inl, inr, List, [], ◌∷◌, ◌++◌, filter, Option, Some, None, is_some, unwrap_or, MatchOption, refl, sym, ap, ◌∙◌, subst, mul-add, arith, rules}
use Rattle.std.specs.List.{AllByRecursion, list_any}
use Rattle.std.specs.Bool.{⊤}
use Rattle.std.proofs.lemmas.Bool.{false≢true}
use Rattle.std.proofs.Math.Bool.{and-false}
use Rattle.clk_packet.specs.declared.packet.Packet.{Packet}
use Rattle.clk_sched.specs.declared.visit.Visit.{Visit}
use Rattle.clk_packet.specs.Scheduler.{Scheduler, drr}
use Rattle.clk_sched.specs.Turns.{EachAfter, IsPlain}
use Rattle.clk_sched.specs.Heads.{head_at}
use Rattle.clk_sched.specs.Log.{asks}
use Rattle.clk_sched.specs.Laws.Deficit.{arrives, arrivals, passed_bytes, quantum_at}
use Rattle.clk_sched.specs.inside.Pulling.{AreApart, input_of}
use Rattle.clk_sched.proofs.Lists.Numbers.{equal, differs, same}
use Rattle.clk_packet.specs.Lists.{In}
use Rattle.clk_sched.proofs.Lists.Members.{of-all, filter-in}
use Rattle.clk_sched.proofs.Runs.Allowed.{onto, each-split}
use Rattle.clk_sched.proofs.Shares.DeficitShares.{IsDeficitVisit, IsCovered, covers-all}
use Rattle.clk_sched.proofs.Closing.Visited.{Misses, IsAt, at-input, one_if, hits, hits-misses, hits-at}
use Rattle.clk_sched.proofs.Closing.Turned.{passes}
use Rattle.clk_sched.specs.inside.Looking.{is_covered}
use Rattle.std.specs.Option.{option_map_or}

-- the length of a packet, and 0 if there is none
abbrev bytes_of : Option Packet → ℕ
bytes_of o = option_map_or (λ (p : Packet). p.length) o 0

-- So many visits more are enough to cover a head, after these bytes and arrivals at its input.
abbrev pub EnoughBy : (quantum : ℕ) → Option Packet → (bytes arrived more : ℕ) → Type 0
EnoughBy quantum head bytes arrived more = MatchOption head ⊤ (λ p. p.length + bytes ≤ quantum * (arrived + (more + 1)))

abbrev pub Enough : List ℕ → ℕ → List Visit → ℕ → Type 0
Enough quanta i visits more = EnoughBy (quantum_at quanta i) (head_at i visits) (passed_bytes i visits) (arrivals i visits) more

-- Below an input stand so many packets and so much work. With its head, the input has so many left, and so much work, where each packet
-- below may cost `k` visits more before it has passed.
pub record HeadCosts (k : ℕ) (quanta : List ℕ) (visits : List Visit) (i below work_below left work : ℕ) : Type 0 where
  pub more : ℕ
  pub enough : Enough quanta i visits more
  pub left_is : left ≡ below + one_if (is_some (head_at i visits))
  pub work_is : work ≡ work_below + k * below + more

abbrev pub CostsAt : (k : ℕ) → Scheduler → List Visit → (i below work_below left work : ℕ) → Type 0
CostsAt k (drr quanta) visits i below work_below left work = HeadCosts k quanta visits i below work_below left work
CostsAt k class visits i below work_below left work = (left ≡ below) × (work ≡ work_below)

-- What a pull did to what stands at an input that visits go to: where it wasn't asked, as many packets are left, and where it gave one,
-- one less. Its work never grows, and falls where it gave none while it had some.
pub record IsAsked (i : ℕ) (visits : List Visit) (old old_work new new_work : ℕ) : Type 0 where
  pub idle : list_any (asks i) visits ≡ false → new ≡ old
  pub never_grows : new_work ≤ old_work
  pub gave : (v : Visit) → In v (filter (asks i) visits) → MatchOption v.got ((new ≡ old) × (0 < old → new_work < old_work)) (λ p. new + 1 ≡ old)

-- what the visits of a turn obey, as far as costs go
pub record KeepsDeficits (k w : ℕ) (quanta : List ℕ) (earlier visits : List Visit) : Type 0 where
  pub looks : EachAfter (IsDeficitVisit quanta w) earlier visits
  pub covered : IsCovered quanta earlier
  pub enough : (i : ℕ) → i < w → 65535 ≤ quantum_at quanta i * k

abbrev pub TurnLaw : (k w : ℕ) → Scheduler → List Visit → List Visit → Type 0
TurnLaw k w (drr quanta) earlier visits = KeepsDeficits k w quanta earlier visits
TurnLaw k w class earlier visits = AllByRecursion IsPlain visits

-- An input after a turn: what passed is left no more, and the work never grows; where the turn came by and passed nothing from there
-- while something was left, it falls.
pub record IsInputAfter (k : ℕ) (class : Scheduler) (earlier visits : List Visit) (i below work_below left work : ℕ) : Type 0 where
  pub new_left : ℕ
  pub new_work : ℕ
  pub costs : CostsAt k class (onto visits earlier) i below work_below new_left new_work
  pub conserved : new_left + hits passes i visits ≡ left
  pub never_grows : new_work ≤ work
  pub falls : hits (λ v. true) i visits ≡ 1 → hits passes i visits ≡ 0 → 0 < left → new_work < work

pub misses-idle : (i : ℕ) (visits : List Visit) → Misses i visits → list_any (asks i) visits ≡ false
misses-idle i [] m = refl
misses-idle i (v ∷ visits) m = rw (differs v.input i m.0, and-false v.fresh) (misses-idle i visits m.1)

any-append : (test : Visit → Bool) (us vs : List Visit) → list_any test us ≡ false → list_any test vs ≡ false → list_any test (us ++ vs) ≡ false
any-append test us vs e f = grind (arith, common_steps, false≢true)

in-middle : (us vs : List Visit) (v : Visit) → In v (us ++ v ∷ vs)
in-middle [] vs v = inl refl
in-middle (u ∷ us) vs v = inr (in-middle us vs v)

pub at-idle : (i : ℕ) (visits : List Visit) (at : IsAt i visits) → at.visit.fresh ≡ false → list_any (asks i) visits ≡ false
at-idle i visits at e = search (rules, any-append, misses-idle)

at-asked : (i : ℕ) (visits : List Visit) (at : IsAt i visits) → at.visit.fresh ≡ true → In at.visit (filter (asks i) visits)
at-asked i visits at e = search (rules, filter-in, equal, in-middle)

pub onto-joined : (us vs earlier : List Visit) → onto (us ++ vs) earlier ≡ onto vs (onto us earlier)
onto-joined [] vs earlier = refl
onto-joined (u ∷ us) vs earlier = onto-joined us vs (u ∷ earlier)

-- visits that miss an input change nothing there
record IsSameAt (i : ℕ) (earlier later : List Visit) : Type 0 where
  head : head_at i later ≡ head_at i earlier
  bytes : passed_bytes i later ≡ passed_bytes i earlier
  arrived : arrivals i later ≡ arrivals i earlier

misses-same : (i : ℕ) (visits earlier : List Visit) → Misses i visits → IsSameAt i earlier (onto visits earlier)
misses-same i [] earlier m = record { head = refl; bytes = refl; arrived = refl }
misses-same i (v ∷ visits) earlier m = search (rules, differs, (misses-same i visits (v ∷ earlier) m.1))

costs-same : (k : ℕ) (quanta : List ℕ) (earlier later : List Visit) (i below work_below left work : ℕ) → IsSameAt i earlier later → HeadCosts k quanta earlier i below work_below left work → HeadCosts k quanta later i below work_below left work
costs-same k quanta earlier later i below work_below left work same h = search rules

-- What a visit does to the costs of its input: a new head, and the visits that are enough for it.
record IsHeadAfter (quantum k : ℕ) (head_before head_after : Option Packet) (bytes arrived : ℕ) (passed : Bool) (more old old_work new new_work : ℕ) : Type 0 where
  less : ℕ
  enough : EnoughBy quantum head_after bytes arrived less
  conserved : new + one_if (is_some head_after) + one_if passed ≡ old + one_if (is_some head_before)
  never_grows : new_work + k * new + less ≤ old_work + k * old + more
  falls : passed ≡ false → 0 < old + one_if (is_some head_before) → new_work + k * new + less < old_work + k * old + more

-- where no head is held, the input is asked
asked-after : (quantum k bytes arrived arrives more old old_work new new_work : ℕ) (got : Option Packet) (passed : Bool) → passed ≡ is_covered (λ p. nat_le (p.length + bytes) (quantum * (arrives + arrived))) got
    → bytes ≤ quantum * (arrives + arrived) → 65535 ≤ quantum * k → new_work ≤ old_work → MatchOption got ((new ≡ old) × (0 < old → new_work < old_work)) (λ p. new + 1 ≡ old)
    → IsHeadAfter quantum k None (if passed then None else got) (if is_some got then (if passed then bytes_of got else 0) + bytes else 0) (if is_some got then arrives + arrived else 0) passed more old old_work new new_work
asked-after quantum k bytes arrived arrives more old old_work new new_work None true e bound large never gave = absurd (false≢true (sym e))
asked-after quantum k bytes arrived arrives more old old_work new new_work None false e bound large never gave = search rules
asked-after quantum k bytes arrived arrives more old old_work new new_work (Some p) true e bound large never gave = search (rules, mul-add, false≢true)
asked-after quantum zero bytes arrived arrives more old old_work new new_work (Some p) false e bound large never gave = absurd (omega (arith, large))
asked-after quantum (suc k) bytes arrived arrives more old old_work new new_work (Some p) false e bound large never gave =
    let product = ap (λ n. suc k * n) (sym gave) ∙ mul-add (suc k) new 1 in
    record {
      less = k;
      enough = omega (arith, bound, large);
      conserved = omega (arith, gave);
      never_grows = omega (arith, product, never);
      falls = λ _ _. omega (arith, product, never);
    }

-- where a head is held, the visit looks at it, and arrives there
held-after : (quantum k bytes arrived arrives more old old_work new new_work : ℕ) (head : Packet) (got : Option Packet) (passed : Bool) → got ≡ Some head
    → passed ≡ is_covered (λ p. nat_le (p.length + bytes) (quantum * (arrives + arrived))) got → arrives ≡ 1 → head.length + bytes ≤ quantum * (arrived + (more + 1)) → new_work ≤ old_work → new ≡ old
    → IsHeadAfter quantum k (Some head) (if passed then None else got) (if is_some got then (if passed then bytes_of got else 0) + bytes else 0) (if is_some got then arrives + arrived else 0) passed more old old_work new new_work
held-after quantum k bytes arrived arrives more old old_work new new_work head None passed looks e one enough never same = absurd (false≢true (ap is_some looks))
held-after quantum k bytes arrived arrives more old old_work new new_work head (Some p) true looks e one enough never same = search rules
held-after quantum k bytes arrived arrives zero old old_work new new_work head (Some p) false looks e one enough never same = search rules
held-after quantum k bytes arrived arrives (suc more) old old_work new new_work head (Some p) false looks e one enough never same =
    let product = ap (λ n. k * n) same in
    let length_is : p.length ≡ head.length = ap (λ o. (unwrap_or o p).length) looks in
    let arrived_is = ap (λ n. quantum * n) (let s : arrives + arrived + (more + 1) ≡ arrived + (suc more + 1) = omega (arith, one) in s) in
    record {
      less = more;
      enough = omega (arith, length_is, arrived_is, enough);
      conserved = omega (arith, same);
      never_grows = omega (arith, product, never);
      falls = λ _ _. omega (arith, product, never);
    }

-- a visit to a held head is an arrival: had the visit before passed, it would have passed that head
held-arrives : (quanta : List ℕ) (w : ℕ) (earlier : List Visit) (v : Visit) → IsDeficitVisit quanta w earlier v → is_some (head_at v.input earlier) ≡ true → arrives earlier ≡ 1
held-arrives quanta w earlier v law held = grind arith

-- a visit that asks where no head is held, or looks at the head
visit-after : (k w : ℕ) (quanta : List ℕ) (earlier : List Visit) (v : Visit) (more old old_work new new_work : ℕ) → IsDeficitVisit quanta w earlier v → IsCovered quanta earlier → 65535 ≤ quantum_at quanta v.input * k
    → Enough quanta v.input earlier more → new_work ≤ old_work → (v.fresh ≡ false → new ≡ old) → (v.fresh ≡ true → MatchOption v.got ((new ≡ old) × (0 < old → new_work < old_work)) (λ p. new + 1 ≡ old))
    → IsHeadAfter (quantum_at quanta v.input) k (head_at v.input earlier) (head_at v.input (v ∷ earlier)) (passed_bytes v.input (v ∷ earlier)) (arrivals v.input (v ∷ earlier)) v.passed more old old_work new new_work
visit-after k w quanta earlier v more old old_work new new_work law covered large enough never idle gave =
    rw (same v.input) (by_head (head_at v.input earlier) law.fresh law.looks (held-arrives quanta w earlier v law) enough)
  where
    quantum : ℕ
    quantum = quantum_at quanta v.input

    bytes : ℕ
    bytes = passed_bytes v.input earlier

    arrived : ℕ
    arrived = arrivals v.input earlier

    by_head : (o : Option Packet) → v.fresh ≡ not (is_some o) → MatchOption o ⊤ (λ p. v.got ≡ Some p) → (is_some o ≡ true → arrives earlier ≡ 1) → EnoughBy quantum o bytes arrived more
        → IsHeadAfter quantum k o (if v.passed then None else v.got) (if is_some v.got then (if v.passed then bytes_of v.got else 0) + bytes else 0) (if is_some v.got then arrives earlier + arrived else 0) v.passed more old old_work new new_work
    by_head o fresh looks one h = search (rules, asked-after, held-after, quantum, bytes, arrived)

-- an input of a DRRSched after a turn
heads-after : (k w : ℕ) (quanta : List ℕ) (earlier visits : List Visit) (i old old_work new new_work left work : ℕ) → i < w → KeepsDeficits k w quanta earlier visits → AreApart input_of visits → IsAsked i visits old old_work new new_work
    → HeadCosts k quanta earlier i old old_work left work → IsInputAfter k (drr quanta) earlier visits i new new_work left work
heads-after k w quanta earlier visits i old old_work new new_work left work within law apart asked costs = by_visit (at-input i visits apart)
  where
    by_visit : Misses i visits ⊎ IsAt i visits → IsInputAfter k (drr quanta) earlier visits i new new_work left work
    by_visit (inl m) =
        let unasked = asked.idle (misses-idle i visits m) in
        let product = ap (λ n. k * n) unasked in
        let left_is = costs.left_is in
        let work_is = costs.work_is in
        let none = hits-misses passes i visits m in
        let all = hits-misses (λ v. true) i visits m in
        let now = misses-same i visits earlier m in
        record {
          new_left = new + one_if (is_some (head_at i earlier));
          new_work = new_work + k * new + costs.more;
          costs = costs-same k quanta earlier (onto visits earlier) i new new_work _ _ now (record { more = costs.more; enough = costs.enough; left_is = refl; work_is = refl });
          conserved = omega (arith, left_is, none, unasked);
          never_grows = omega (arith, product, work_is);
          falls = λ e _ _. absurd (let f : hits (λ v. true) i visits ≡ 1 = e in omega (arith, all, f));
        }
    by_visit (inr at) =
        let v = at.visit in
        let before = onto at.before earlier in
        let parts = each-split (IsDeficitVisit quanta w) earlier at.before (at.visit ∷ at.after) (subst (EachAfter (IsDeficitVisit quanta w) earlier) at.are law.looks) in
        let start = costs-same k quanta earlier before i old old_work left work (misses-same i at.before earlier at.misses_before) costs in
        let step =
        visit-after k w quanta before v start.more old old_work new new_work parts.1.0 (covers-all quanta w earlier at.before parts.0 law.covered)
        (subst (λ j. 65535 ≤ quantum_at quanta j * k) (sym at.here) (law.enough i within)) (subst (λ j. Enough quanta j before start.more) (sym at.here) start.enough) asked.never_grows
        (λ e. asked.idle (at-idle i visits at e)) (λ e. asked.gave v (at-asked i visits at e))
        in
        let left_is = start.left_is ∙ ap (λ j. old + one_if (is_some (head_at j before))) (sym at.here) in
        let work_is = start.work_is in
        let conserved = step.conserved in
        let hit = hits-at passes i visits at in
        let whole = ap (λ l. onto l earlier) at.are ∙ onto-joined at.before (v ∷ at.after) earlier in
        let now : HeadCosts k quanta (v ∷ before) i new new_work (new + one_if (is_some (head_at v.input (v ∷ before)))) (new_work + k * new + step.less) = record {
          more = step.less;
          enough = subst (λ j. Enough quanta j (v ∷ before) step.less) at.here step.enough;
          left_is = ap (λ j. new + one_if (is_some (head_at j (v ∷ before)))) at.here;
          work_is = refl;
        } in
        record {
          new_left = new + one_if (is_some (head_at v.input (v ∷ before)));
          new_work = new_work + k * new + step.less;
          costs = subst (λ e. HeadCosts k quanta e i new new_work (new + one_if (is_some (head_at v.input (v ∷ before)))) (new_work + k * new + step.less)) (sym whole)
              (costs-same k quanta (v ∷ before) (onto at.after (v ∷ before)) i new new_work _ _ (misses-same i at.after (v ∷ before) at.misses_after) now);
          conserved = omega (arith, left_is, conserved, hit);
          never_grows = omega (arith, work_is);
          falls = λ _ none some.
              let unpassed = by_passed v.passed refl hit none in
              omega (arith, work_is);
        }
      where
        by_passed : (b : Bool) → at.visit.passed ≡ b → hits passes i visits ≡ one_if at.visit.passed → hits passes i visits ≡ 0 → at.visit.passed ≡ false
        by_passed b e h none = search rules

-- an input of a scheduler that asks in order, after a turn
plain-after : (k : ℕ) (class : Scheduler) (earlier visits : List Visit) (i old old_work new new_work left work : ℕ)
    → ((new_left new_work : ℕ) → CostsAt k class (onto visits earlier) i new_left new_work new_left new_work) → AllByRecursion IsPlain visits → AreApart input_of visits → IsAsked i visits old old_work new new_work
    → (left ≡ old) × (work ≡ old_work) → IsInputAfter k class earlier visits i new new_work left work
plain-after k class earlier visits i old old_work new new_work left work plainly plain apart asked costs = by_visit (at-input i visits apart)
  where
    left_is : left ≡ old
    left_is = costs.0

    work_is : work ≡ old_work
    work_is = costs.1

    never : new_work ≤ old_work
    never = asked.never_grows

    by_visit : Misses i visits ⊎ IsAt i visits → IsInputAfter k class earlier visits i new new_work left work
    by_visit (inl m) =
        let unasked = asked.idle (misses-idle i visits m) in
        let none = hits-misses passes i visits m in
        let all = hits-misses (λ v. true) i visits m in
        record {
          new_left = new;
          new_work = new_work;
          costs = plainly new new_work;
          conserved = let l = left_is in omega (arith, l, none, unasked);
          never_grows = let w = work_is in let n = never in omega (arith, w, n);
          falls = λ e _ _. absurd (let f : hits (λ v. true) i visits ≡ 1 = e in omega (arith, all, f));
        }
    by_visit (inr at) = by_got at.visit.got at.visit.passed its.passed (asked.gave at.visit (at-asked i visits at its.fresh)) (hits-at passes i visits at)
      where
        its : IsPlain at.visit
        its = of-all IsPlain at.visit visits plain (subst (In at.visit) (sym at.are) (in-middle at.before at.after at.visit))

        by_got : (o : Option Packet) (b : Bool) → b ≡ is_some o → MatchOption o ((new ≡ old) × (0 < old → new_work < old_work)) (λ p. new + 1 ≡ old) → hits passes i visits ≡ one_if b → IsInputAfter k class earlier visits i new new_work left work
        by_got None true e gave hit = absurd (false≢true (sym e))
        by_got None false e gave hit = record {
          new_left = new;
          new_work = new_work;
          costs = plainly new new_work;
          conserved = let l = left_is in let same = gave.0 in omega (arith, l, hit, same);
          never_grows = let w = work_is in let n = never in omega (arith, w, n);
          falls = λ _ _ some. let l = left_is in let s = some in let fell = gave.1 (omega (arith, l, s)) in let w = work_is in omega (arith, w, fell);
        }
        by_got (Some p) false e gave hit = absurd (false≢true e)
        by_got (Some p) true e gave hit = record {
          new_left = new;
          new_work = new_work;
          costs = plainly new new_work;
          conserved = let l = left_is in omega (arith, l, hit, gave);
          never_grows = let w = work_is in let n = never in omega (arith, w, n);
          falls = λ _ none _. absurd (let f = none in omega (arith, hit, f));
        }

-- each input after a turn
pub input-after : (k w : ℕ) (class : Scheduler) (earlier visits : List Visit) (i old old_work new new_work left work : ℕ) → i < w → TurnLaw k w class earlier visits → AreApart input_of visits → IsAsked i visits old old_work new new_work
    → CostsAt k class earlier i old old_work left work → IsInputAfter k class earlier visits i new new_work left work
input-after k w (drr quanta) earlier visits i old old_work new new_work left work within law apart asked costs = heads-after k w quanta earlier visits i old old_work new new_work left work within law apart asked costs
input-after k w class earlier visits i old old_work new new_work left work within law apart asked costs = plain-after k class earlier visits i old old_work new new_work left work (λ m n. (refl, refl)) law apart asked costs
