use Rattle.std.proofs.Common.{◌≡◌, ℕ, ◌+◌, ◌-◌, ◌<◌, ◌≤◌, ◌++◌, ◌∷◌, ◌∙◌, List, suc, take, drop, length, set, get_or, ap, ap₂, sym, subst, arith}
use Rattle.std.specs.List.{All, AllByRecursion}
use Rattle.std.proofs.lemmas.List.{get_or_default, length-drop}
use Rattle.std.proofs.lemmas.List.Elements.{All-from_recursion}
use Rattle.clk_sched.specs.inside.Ranks.{Ranked, HasRisingPasses, at_pass, first_pass, less, put_rank}
use Rattle.clk_sched.proofs.Classes.RankBehind.{all-at}
use Rattle.clk_sched.proofs.Classes.RankFirst.{walked, walk-length, walk-read, walk-next, walk-behind, least-first, walk-won}
use Rattle.clk_sched.proofs.Classes.RankLemmas.{read-at, after-place, all-drop, before-next, before-found, before-all}
use Rattle.clk_sched.proofs.Classes.RankLess.{taken_from, taken-slice}
use Rattle.clk_sched.proofs.session.stride.win_first.Goals as goal
use Rattle.clk_sched.proofs.session.stride.win_first.Goals.{then-loop-place-test+else-not-is_up_to, else-loop-place-test}

-- the default of a place that there is
abbrev blank : Ranked
blank = record { pass = 0; input = 0 }

-- what the walk has come to before it moves one more
record IsNext (least k : ℕ) (row now : List Ranked) : Type 0 where
  inside : suc k < length row
  some : k < length (drop 1 row)
  read : get_or now (k + 1) blank ≡ get_or (drop 1 row) k blank

next : (least k : ℕ) (row now : List Ranked) → k < length row → now ≡ walked least k row → k + 1 < length now → IsNext least k row now
next least k row now l is test =
    let all = ap length is ∙ walk-length least k row l in
    let size = length-drop 1 row in
    let inside : suc k < length row = omega (arith, all, test) in
    let one : k + 1 ≡ suc k = omega arith in
    record {
      inside = inside;
      some = omega (arith, size, inside);
      read = ap₂ (λ xs n. get_or xs n blank) is one ∙ walk-read least k row blank inside;
    }

-- the least pass is no greater than that of any rank
lowest : (least : ℕ) (row : List Ranked) (winner : Ranked) → least ≡ first_pass (put_rank winner (take (length row - 1) (drop 1 row))) → HasRisingPasses row
    → (least ≡ first_pass (put_rank winner (drop 1 row))) × AllByRecursion (λ (o : Ranked). least ≤ o.pass) (drop 1 row)
lowest least row winner is rises =
    let first : least ≡ first_pass (put_rank winner (drop 1 row)) = is ∙ ap (λ xs. first_pass (put_rank winner xs)) (after-place row 1) in
    (first, subst (λ n. AllByRecursion (λ (o : Ranked). n ≤ o.pass) (drop 1 row)) (sym first) (least-first winner row rises).1)

pub less-requires : goal.less-requires
less-requires c =
    let row = c.args.row.now in
    let k = c.loop-place.place in
    let least = c.least_of-least.result in
    let n = next least k row c.loop-place.row c.loop-place.invariant.within c.loop-place.invariant.moved c.loop-place-test.true in
    subst (λ (r : Ranked). least ≤ r.pass) (sym (read-at c.loop-place.row (k + 1) c.index-row-place-in-loop-place.result blank c.loop-place-test.true c.index-row-place-in-loop-place.is ∙ n.read))
    (all-at (λ (o : Ranked). least ≤ o.pass) (drop 1 row) k blank n.some (lowest least row c.at_pass-winner.result c.least_of-least.ensures c.requires.rising).1)

pub loop-place-preserved : goal.loop-place-preserved
loop-place-preserved c =
    let row = c.args.row.now in
    let k = c.loop-place.place in
    let least = c.least_of-least.result in
    let so_far = c.loop-place.invariant in
    let n = next least k row c.loop-place.row so_far.within so_far.moved c.loop-place-test.true in
    let inside = n.inside in
    let one : suc k ≡ k + 1 = omega arith in
    record {
      within = omega (arith, inside);
      moved = ap₂ (λ xs r. set xs k r) so_far.moved (c.less.ensures ∙ ap (less least) (read-at c.loop-place.row (k + 1) c.index-row-place-in-loop-place.result blank c.loop-place-test.true c.index-row-place-in-loop-place.is ∙ n.read)) ∙ walk-next least k row blank n.inside ∙ ap (λ m. walked least m row) one;
      before = before-next c.at_pass-winner.result (drop 1 row) k blank _ n.some (get_or_default c.loop-place.row (k + 1) c.index-row-place.result blank c.loop-place-test.true ∙ n.read) (sym c.is_up_to.ensures ∙ c.if-not-is_up_to.true) so_far.before;
    }

pub subtract-requires : goal.subtract-requires
subtract-requires c =
    let row = c.args.row.now in
    let k = c.loop-place.place in
    let least = c.least_of-least.result in
    let so_far = c.loop-place.invariant in
    let r = c.less-2.result in
    let one : k + 1 ≡ suc k = omega arith in
    let behind = after-place (set c.loop-place.row k r) (k + 1) ∙ ap₂ (λ n xs. drop n (set xs k r)) one so_far.moved ∙ walk-behind least k row r so_far.within in
    let all = (lowest least row c.at_pass-winner.result c.least_of-least.ensures c.requires.rising).1 in
    subst (All (λ (o : Ranked). least ≤ o.pass)) (sym behind) (All-from_recursion (λ (o : Ranked). least ≤ o.pass) (drop k (drop 1 row)) (all-drop (λ (o : Ranked). least ≤ o.pass) k (drop 1 row) all))

pub returns : goal.returns
returns c =
    let row = c.args.row.now in
    let k = c.loop-place.place in
    let least = c.least_of-least.result in
    let so_far = c.loop-place.invariant in
    let winner = c.at_pass-winner.result in
    let all = ap length so_far.moved ∙ walk-length least k row so_far.within in
    let size = length-drop 1 row in
    let within = so_far.within in
    let one : k + 1 ≡ suc k = omega arith in
    let put : put_rank winner (drop 1 row) ≡ take k (drop 1 row) ++ winner ∷ drop k (drop 1 row) =
    elim c.loop-place-test.branch [
      | then-loop-place-test+else-not-is_up_to w ↦
          let n = next least k row c.loop-place.row so_far.within so_far.moved w.loop-place-test.true in
          before-found winner (drop 1 row) k blank _ n.some (get_or_default c.loop-place.row (k + 1) w.index-row-place.result blank w.loop-place-test.true ∙ n.read) (sym w.is_up_to.ensures ∙ w.if-not-is_up_to.false) so_far.before
      | else-loop-place-test w ↦
          let test = w.loop-place-test.false in
          before-all winner (drop 1 row) k (omega (arith, test, all, size, within)) so_far.before
    ]
    in
    taken-slice least (k + 1) (set c.loop-place.row k c.less-2.result) c.subtract.new.ranks c.subtract.ensures
    ∙ ap₂ (λ n xs. taken_from least n (set xs k c.less-2.result)) one so_far.moved
    ∙ ap (λ r. taken_from least (suc k) (set (walked least k row) k r)) c.less-2.ensures
    ∙ walk-won least c.args.stride k row winner blank so_far.within (lowest least row winner c.least_of-least.ensures c.requires.rising).0 (c.at_pass-winner.ensures ∙ ap (at_pass c.args.stride) (read-at row 0 c.index-row-0.result blank c.requires.some c.index-row-0.is)) put
