use Rattle.std.proofs.lemmas.Grind.{common_steps}
use Rattle.std.proofs.Common.{◌≢◌, ℕ, ◌<◌, ◌∙◌, ap, arith, rules}
use Rattle.std.proofs.lemmas.Option.{slice_get-get_or}
use Rattle.clk_sched.specs.inside.Ranks.{Ranked, at_pass}
use Rattle.clk_sched.proofs.Classes.RankLemmas.{read-at, win-next}
use Rattle.clk_sched.proofs.Classes.RankMerge.{passed}
use Rattle.clk_sched.proofs.session.stride.place_visited.Goals as goal

-- the default of a place that there is
abbrev blank : Ranked
blank = record { pass = 0; input = 0 }

some_before : (place : ℕ) → place ≢ 0 → 0 < place
some_before place h = omega arith

pub merge-requires : goal.merge-requires
merge-requires c =
    let all = passed c.args.stride c.args.place c.args.row.now c.put.new.row c.at_pass-winner.result blank c.requires.place c.requires.front c.requires.back (c.at_pass-winner.ensures ∙ ap (at_pass c.args.stride) (read-at c.args.row.now c.args.place c.index-row-place.result blank c.requires.place c.index-row-place.is)) c.put.ensures (c.are_at_zero.ensures c.if-are_at_zero.true) in
    let some = c.if-place-eq0.false in
    record { some = some_before c.args.place some; within = all.within; front = all.front; back = all.back }

pub returns-then-are_at_zero : goal.returns-then-are_at_zero
returns-then-are_at_zero c =
    let all = passed c.args.stride c.args.place c.args.row.now c.put.new.row c.at_pass-winner.result blank c.requires.place c.requires.front c.requires.back (c.at_pass-winner.ensures ∙ ap (at_pass c.args.stride) (read-at c.args.row.now c.args.place c.index-row-place.result blank c.requires.place c.index-row-place.is)) c.put.ensures (c.are_at_zero.ensures c.if-are_at_zero.true) in
    c.merge.ensures ∙ all.won

pub loop-idle-init : goal.loop-idle-init
loop-idle-init c = grind (arith, common_steps, slice_get-get_or)

pub loop-idle-preserved : goal.loop-idle-preserved
loop-idle-preserved c = search (rules, win-next)
