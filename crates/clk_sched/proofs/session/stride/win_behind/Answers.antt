use Rattle.std.proofs.lemmas.Grind.{common_steps}
use Rattle.std.proofs.Common.{◌≡◌, ℕ, ◌+◌, ◌-◌, ◌<◌, ◌≤◌, ◌∙◌, List, length, take, drop, get_or, sym, ap, subst, arith}
use Rattle.std.specs.List.{All}
use Rattle.std.proofs.lemmas.Option.{get_or_from_slice_get}
use Rattle.clk_sched.specs.inside.Ranks.{Ranked, AreInOrder, AreUpTo, after_win, from_least}
use Rattle.clk_sched.proofs.Classes.RankLemmas.{read-at}
use Rattle.clk_sched.proofs.Classes.RankLess.{taken, taken-slice, none-lower}
use Rattle.clk_sched.proofs.session.stride.win_behind.Goals as goal

-- the default of a place that there is
abbrev blank : Ranked
blank = record { pass = 0; input = 0 }

-- the pass that was read
pass-read : (row : List Ranked) (place : ℕ) (r : Ranked) (pass : ℕ) → place < length row → r ≡ get_or row place r → pass ≡ r.pass → (get_or row place blank).pass ≡ pass
pass-read row place r pass l is e = ap (λ (s : Ranked). s.pass) (sym (read-at row place r blank l is)) ∙ sym e

pub subtract-requires : goal.subtract-requires
subtract-requires c =
    let row = c.args.row.now in
    let place = c.args.place in
    let pass_is = pass-read row place c.index-row-place.result c.pass-pass.result c.requires.place c.index-row-place.is c.pass-pass.ensures in
    subst (λ p. All (λ (r : Ranked). p ≤ r.pass) (take (length row - place) (drop place row))) pass_is (none-lower row place blank c.requires.place c.requires.order)

pub place_visited-requires-clause-front : goal.place_visited-requires-clause-front
place_visited-requires-clause-front c =
    let row = c.args.row.now in
    let pass = c.pass-pass.result in
    let pass_is = pass-read row c.args.place c.index-row-place.result pass c.requires.place c.index-row-place.is c.pass-pass.ensures in
    subst (λ (xs : List Ranked). AreInOrder (take c.args.place xs)) (sym (taken-slice pass c.args.place row c.subtract.new.ranks c.subtract.ensures)) (taken pass 0 c.args.place row blank c.requires.place pass_is c.requires.order).front

pub place_visited-requires-clause-back : goal.place_visited-requires-clause-back
place_visited-requires-clause-back c =
    let row = c.args.row.now in
    let pass = c.pass-pass.result in
    let pass_is = pass-read row c.args.place c.index-row-place.result pass c.requires.place c.index-row-place.is c.pass-pass.ensures in
    subst (λ (xs : List Ranked). AreUpTo (drop (c.args.place + 1) xs)) (sym (taken-slice pass c.args.place row c.subtract.new.ranks c.subtract.ensures)) (taken pass 0 c.args.place row blank c.requires.place pass_is c.requires.order).back

pub subtract_least-requires-clause-least : goal.subtract_least-requires-clause-least
subtract_least-requires-clause-least c = grind (arith, common_steps, taken, taken-slice)

pub returns : goal.returns
returns c winner here =
    let row = c.args.row.now in
    let place = c.args.place in
    let stride = c.args.stride in
    let pass = c.pass-pass.result in
    let pass_is = pass-read row place c.index-row-place.result pass c.requires.place c.index-row-place.is c.pass-pass.ensures in
    let is : pass ≡ winner.pass = sym pass_is ∙ ap (λ (r : Ranked). r.pass) (get_or_from_slice_get row place winner blank here) in
    c.subtract_least.ensures
    ∙ ap from_least (c.place_visited.ensures ∙ ap (after_win 0 stride place) (taken-slice pass place row c.subtract.new.ranks c.subtract.ensures))
    ∙ (taken pass stride place row blank c.requires.place pass_is c.requires.order).same
    ∙ ap (λ p. from_least (after_win p stride place row)) is
