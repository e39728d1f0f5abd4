use Rattle.std.proofs.Common.{◌≡◌, ◌+◌, ◌-◌, ◌<◌, ◌∷◌, List, [], suc, length, drop, refl, sym, ap, ap₂, ◌∙◌, subst, arith}
use Rattle.std.proofs.Math.ListN.{drop_of_length-le}
use Rattle.std.proofs.lemmas.List.{get_or_default}
use Rattle.clk_sched.specs.inside.Ranks.{Ranked, is_up_to, put_rank}
use Rattle.clk_sched.proofs.Classes.RankLemmas.{read-at, put-here, from-place}
use Rattle.clk_sched.proofs.Classes.RankMerge.{merging-next, merging-end}
use Rattle.clk_sched.proofs.Nodes.Asked.{rank_at}
use Rattle.clk_sched.proofs.session.stride.merge.Goals as goal

-- the default of a place that there is
abbrev blank : Ranked
blank = record { pass = 0; input = 0 }

pub returns-then-is_up_to : goal.returns-then-is_up_to
returns-then-is_up_to c =
    let row = c.loop-next.row in
    let next = c.loop-next.next in
    let some = c.requires.some in
    let last = rank_at row (next - 1) in
    let rows = c.loop-next.auto.row in
    let test = c.loop-next-test.true in
    let below : next < length row = omega (arith, rows, test) in
    let behind = from-place row next blank (rank_at row next) below refl in
    let first = read-at row (next - 1) c.index-row-next.result blank (omega (arith, below)) c.index-row-next.is in
    let other = get_or_default row next c.index-row-next-in-loop-next.result blank below in
    merging-end _ row next (next - 1) blank (omega (arith, some)) (omega arith)
    (subst (λ (xs : List Ranked). put_rank last xs ≡ last ∷ xs) (sym behind) (put-here last (rank_at row next) (drop (suc next) row) (sym (ap₂ (λ r s. is_up_to r s) first other) ∙ sym c.is_up_to.ensures ∙ c.if-is_up_to.true))) c.loop-next.invariant

pub loop-next-preserved : goal.loop-next-preserved
loop-next-preserved c =
    let row = c.loop-next.row in
    let next = c.loop-next.next in
    let after : next + 1 ≡ suc next = omega arith in
    let rank = c.index-row-next-in-loop-next-2.result in
    let rows = c.loop-next.auto.row in
    let test = c.loop-next-test.true in
    let here = from-place row next rank rank (omega (arith, rows, test)) c.index-row-next-in-loop-next-2.is ∙ ap (λ n. rank ∷ drop n row) (sym after) in
    merging-next _ row c.put_in_front.new.row next (next + 1) rank after (omega arith) here c.put_in_front.ensures c.loop-next.invariant

pub returns : goal.returns
returns c =
    let row = c.loop-next.row in
    let next = c.loop-next.next in
    let some = c.requires.some in
    let last = rank_at row (next - 1) in
    let none : drop next row ≡ [] = drop_of_length-le row (omega arith) in
    merging-end _ row next (next - 1) blank (omega (arith, some)) (omega arith) (subst (λ (xs : List Ranked). put_rank last xs ≡ last ∷ xs) (sym none) refl) c.loop-next.invariant
