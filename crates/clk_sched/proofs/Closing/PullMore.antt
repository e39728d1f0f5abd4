-- One more pull leaves what didn't pass, and the work never grows; where it gives none while something is left, the work falls.
use Rattle.std.proofs.Common.{◌≡◌, ◌≢◌, ◌⊎◌, ℕ, suc, ◌+◌, ◌<◌, ◌≤◌, ◌&&◌, append-nil, true, false, inl, inr, List, [], ◌∷◌, ◌++◌, length, map, filter, Option, Some, None, is_some, MatchOption, refl, sym, ap, ◌∙◌, subst, arith, rules}
use Rattle.std.specs.List.{list_any}
use Rattle.std.proofs.lemmas.Bool.{false≢true}
use Rattle.std.proofs.Math.Bool.{and-false}
use Rattle.std.proofs.lemmas.List.Elements.{filter-append}
use Rattle.clk_packet.specs.declared.packet.Packet.{Packet}
use Rattle.clk_sched.specs.declared.visit.Visit.{Visit}
use Rattle.clk_packet.specs.Scheduler.{Scheduler}
use Rattle.clk_sched.specs.Tree.{Row, end, leaf, node, width, nodes}
use Rattle.clk_sched.specs.Log.{visits_of, asks, pulls_below, result_of}
use Rattle.clk_sched.specs.Closing.{GivesOut}
use Rattle.clk_sched.specs.inside.Pulling.{AreApart, input_of}
use Rattle.clk_sched.proofs.Lists.Numbers.{differs, equal}
use Rattle.clk_packet.specs.Lists.{In}
use Rattle.clk_sched.proofs.Lists.Members.{of-all, in-filter, any-in, filter-none, all-weaker}
use Rattle.clk_sched.proofs.Runs.Pulled.{unasked-none}
use Rattle.clk_sched.proofs.Closing.Visited.{Misses, IsAt, at-input, one_if, count, hits, hits-misses, hits-at, hits-all, hits-at_most, sum_from, each-one}
use Rattle.clk_sched.proofs.Closing.Turned.{passes, IsTurn}
use Rattle.clk_sched.proofs.Closing.Costs.{CostsAt, IsAsked, TurnLaw, IsInputAfter, input-after}
use Rattle.clk_sched.proofs.Closing.Rows.{latest, latest-more, Amount, IsSum, sum_of, Costs, IsPulledMore, more-after_leaf, more-after_node, more-inputs, IsTurnMore, turn-more}

-- an input is asked once at most
misses-unasked : (i : ℕ) (visits : List Visit) → Misses i visits → filter (asks i) visits ≡ []
misses-unasked i visits m = filter-none (asks i) visits (all-weaker (λ (v : Visit). v.input ≢ i) (λ (v : Visit). asks i v ≡ false) visits (λ v d. ap (λ b. v.fresh && b) (differs v.input i d) ∙ and-false v.fresh) m)

asked-one : (i : ℕ) (visits : List Visit) → AreApart input_of visits → (filter (asks i) visits ≡ []) ⊎ ((v : Visit) × (filter (asks i) visits ≡ v ∷ []))
asked-one i visits apart = search (rules, at-input, misses-unasked, filter-append, append-nil, equal)

asked-any : (i : ℕ) (visits : List Visit) (v : Visit) → In v (filter (asks i) visits) → list_any (asks i) visits ≡ true
asked-any i visits v m = let its = in-filter (asks i) v visits m in any-in (asks i) v visits its.1 its.0

-- a queue that is asked at an input
queue-asked : (i : ℕ) (visits : List Visit) (old new : ℕ) → AreApart input_of visits → GivesOut old (map (λ (v : Visit). v.got) (filter (asks i) visits)) new
    → IsAsked i visits old 0 new 0
queue-asked i visits old new apart gives = by_asked (asked-one i visits apart)
  where
    answers : List Visit → List (Option Packet)
    answers vs = map (λ (v : Visit). v.got) vs

    by_asked : (filter (asks i) visits ≡ []) ⊎ ((v : Visit) × (filter (asks i) visits ≡ v ∷ [])) → IsAsked i visits old 0 new 0
    by_asked (inl none) =
        let kept : old ≡ new = subst (λ vs. GivesOut old (answers vs) new) none gives in
        record { idle = λ _. sym kept; never_grows = omega arith; gave = λ v m. absurd (subst (In v) none m) }
    by_asked (inr one) =
        record {
          idle = λ e. absurd (false≢true (sym e ∙ asked-any i visits one.0 (subst (In one.0) (sym one.1) (inl refl))));
          never_grows = omega arith;
          gave = λ v m. search rules;
        }

-- A row after one more pull: what its node's visits passed is left no more.
pub record IsRowAfter (k : ℕ) (held : ℕ → ℕ) (log visits : List Visit) (class : Scheduler) (above first next : ℕ) (row : Row) (left work : ℕ) : Type 0 where
  pub now : Amount
  pub costs : Costs k held log class above first next row now.left now.work
  pub conserved : now.left + sum_from (λ j. hits passes j visits) first (width row) ≡ left
  pub never_grows : now.work ≤ work
  pub falls : ((j : ℕ) → first ≤ j → j < first + width row → (hits (λ v. true) j visits ≡ 1) × (hits passes j visits ≡ 0)) → 0 < left → now.work < work

-- the sum of an input after a pull and of those after it
record IsSumAfter (visits : List Visit) (first inputs left work : ℕ) (here rest : Amount) : Type 0 where
  conserved : here.left + rest.left + sum_from (λ j. hits passes j visits) first (suc inputs) ≡ left
  never_grows : here.work + rest.work ≤ work
  falls : ((j : ℕ) → first ≤ j → j < first + suc inputs → (hits (λ v. true) j visits ≡ 1) × (hits passes j visits ≡ 0)) → 0 < left → here.work + rest.work < work

sum-after : (k : ℕ) (held : ℕ → ℕ) (log visits earlier : List Visit) (class : Scheduler) (above first next i below work_below left work : ℕ) (row : Row) (s : IsSum left work) → i ≡ first
    → (here : IsInputAfter k class earlier visits first below work_below s.here.left s.here.work) → (rest : IsRowAfter k held log visits class above (suc first) next row s.rest.left s.rest.work)
    → IsSumAfter visits first (width row) left work (record { left = here.new_left; work = here.new_work }) rest.now
sum-after k held log visits earlier class above first next i below work_below left work row s e here rest = search rules

count-all : (visits : List Visit) → count (λ v. true) visits ≡ length visits
count-all [] = refl
count-all (v ∷ visits) = let rest = count-all visits in omega (arith, rest)

once : (visits : List Visit) → AreApart input_of visits → (j : ℕ) → hits (λ v. true) j visits ≤ 1
once visits apart j = by_visit (at-input j visits apart)
  where
    by_visit : Misses j visits ⊎ IsAt j visits → hits (λ v. true) j visits ≤ 1
    by_visit (inl m) = let e = hits-misses (λ v. true) j visits m in omega (arith, e)
    by_visit (inr at) = let e = hits-at (λ v. true) j visits at in omega (arith, e)

-- a turn that gave none came by each input once, and passed nothing
pub all-in_vain : (w : ℕ) (visits : List Visit) → IsTurn w visits → length visits ≡ w → result_of visits ≡ None → (j : ℕ) → 0 ≤ j → j < 0 + w → (hits (λ v. true) j visits ≡ 1) × (hits passes j visits ≡ 0)
all-in_vain w visits turn long none j low high = (
  each-one (λ j. hits (λ v. true) j visits) 0 w (once visits turn.apart) (let all = hits-all (λ v. true) w visits turn.within in let each = count-all visits in omega (arith, all, each, long)) j low high,
  let most = hits-at_most passes j visits in let zero = turn.passed ∙ ap (λ o. one_if (is_some o)) none in omega (arith, most, zero),
)

-- a scheduler that is asked at an input of the node above
node-asked : (k : ℕ) (old new : ℕ → ℕ) (log pull : List Visit) (above first next : ℕ) (class : Scheduler) (inputs row : Row) (pulled : List (List Visit)) (left work : ℕ)
    → IsPulledMore k old new log pull above first next (node class inputs row) pulled → (after : IsRowAfter k new (log ++ pull) (visits_of next pull) class next 0 (suc next) inputs left work)
    → IsAsked first (visits_of above pull) left work after.now.left after.now.work
node-asked k old new log pull above first next class inputs row pulled left work h after =
    record {
      idle = λ e. let none = ap (count passes) (unasked-none pull above first next class inputs row h.owns e) in let a = after.conserved in omega (arith, a, none, sum);
      never_grows = after.never_grows;
      gave = λ v m. subst Gave (sym (of-all (λ (u : Visit). u.got ≡ result_of (visits_of next pull)) v (filter (asks first) (visits_of above pull)) h.allows.1 m)) (by_result (result_of (visits_of next pull)) refl (asked-any first (visits_of above pull) v m));
    }
  where
    visits : List Visit
    visits = visits_of next pull

    turn : IsTurnMore k (width inputs) class (latest log next) visits (list_any (asks first) (visits_of above pull))
    turn = turn-more k old new log pull above first next class inputs row pulled h

    sum : sum_from (λ j. hits passes j visits) 0 (width inputs) ≡ count passes visits
    sum = hits-all passes (width inputs) visits turn.is_turn.within

    Gave : Option Packet → Type 0
    Gave o = MatchOption o ((after.now.left ≡ left) × (0 < left → after.now.work < work)) (λ p. after.now.left + 1 ≡ left)

    by_result : (o : Option Packet) → result_of visits ≡ o → list_any (asks first) (visits_of above pull) ≡ true → Gave o
    by_result None e asked =
        let a = after.conserved in
        let s = sum in
        let none = turn.is_turn.passed ∙ ap (λ o. one_if (is_some o)) e in (
          omega (arith, a, s, none),
          after.falls (all-in_vain (width inputs) visits turn.is_turn (turn.all asked e) e),
        )
    by_result (Some p) e asked =
        let a = after.conserved in
        let s = sum in
        let one = turn.is_turn.passed ∙ ap (λ o. one_if (is_some o)) e in
        omega (arith, a, s, one)

pub row-after : (row : Row) (k w : ℕ) (old new : ℕ → ℕ) (log pull : List Visit) (class : Scheduler) (above first next : ℕ) (pulled : List (List Visit)) (left work : ℕ) → first + width row ≤ w
    → TurnLaw k w class (latest log above) (visits_of above pull) → AreApart input_of (visits_of above pull) → IsPulledMore k old new log pull above first next row pulled → Costs k old log class above first next row left work
    → IsRowAfter k new (log ++ pull) (visits_of above pull) class above first next row left work
row-after end k w old new log pull class above first next pulled left work within law apart h costs =
    record {
      now = record { left = 0; work = 0 };
      costs = (refl, refl);
      conserved = omega arith;
      never_grows = omega arith;
      falls = λ _ some. absurd (let l = some in omega (arith, l));
    }
row-after (leaf q row) k w old new log pull class above first next pulled left work within law apart h costs =
    let s = costs.0 in
    let rest = row-after row k w old new log pull class above (suc first) next pulled s.rest.left s.rest.work (omega (arith, within)) law apart (more-after_leaf k old new log pull above first next q row pulled h) costs.2 in
    let here = input-after k w class (latest log above) (visits_of above pull) first (old q) 0 (new q) 0 s.here.left s.here.work (omega (arith, within)) law apart (queue-asked first (visits_of above pull) (old q) (new q) apart h.gives.0) costs.1 in
    let sum = sum-after k new (log ++ pull) (visits_of above pull) (latest log above) class above first next first (new q) 0 left work row s refl here rest in
    record {
      now = record { left = here.new_left + rest.now.left; work = here.new_work + rest.now.work };
      costs = (
        sum_of (record { left = here.new_left; work = here.new_work }) rest.now,
        subst (λ e. CostsAt k class e first (new q) 0 here.new_left here.new_work) (sym (latest-more log pull above)) here.costs,
        rest.costs,
      );
      conserved = sum.conserved;
      never_grows = sum.never_grows;
      falls = sum.falls;
    }
row-after (node c inputs row) k w old new log pull class above first next pulled left work within law apart h costs =
    let s = costs.0 in
    let below = costs.1 in
    let turn = turn-more k old new log pull above first next c inputs row pulled h in
    let inside = row-after inputs k (width inputs) old new log pull c next 0 (suc next) (pulls_below above first pulled) below.left below.work (omega arith) turn.law turn.is_turn.apart (more-inputs k old new log pull above first next c inputs row pulled h) costs.2 in
    let rest = row-after row k w old new log pull class above (suc first) (suc (next + nodes inputs)) pulled s.rest.left s.rest.work (omega (arith, within)) law apart (more-after_node k old new log pull above first next c inputs row pulled h) costs.4 in
    let here = input-after k w class (latest log above) (visits_of above pull) first below.left below.work inside.now.left inside.now.work s.here.left s.here.work (omega (arith, within)) law apart
    (node-asked k old new log pull above first next c inputs row pulled below.left below.work h inside) costs.3 in
    let sum = sum-after k new (log ++ pull) (visits_of above pull) (latest log above) class above first (suc (next + nodes inputs)) first inside.now.left inside.now.work left work row s refl here rest in
    record {
      now = record { left = here.new_left + rest.now.left; work = here.new_work + rest.now.work };
      costs = (
        sum_of (record { left = here.new_left; work = here.new_work }) rest.now,
        inside.now,
        inside.costs,
        subst (λ e. CostsAt k class e first inside.now.left inside.now.work here.new_left here.new_work) (sym (latest-more log pull above)) here.costs,
        rest.costs,
      );
      conserved = sum.conserved;
      never_grows = sum.never_grows;
      falls = sum.falls;
    }
