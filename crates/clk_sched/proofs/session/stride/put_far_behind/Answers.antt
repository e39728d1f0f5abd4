use Rattle.std.proofs.Common.{◌≡◌, ◌+◌, ◌-◌, ◌∙◌, drop, sym, ap, arith}
use Rattle.std.proofs.Math.Seq.{paste}
use Rattle.clk_sched.proofs.Classes.RankBehind.{putting-next}
use Rattle.clk_sched.proofs.session.stride.put_far_behind.Goals as goal

pub loop-place-preserved : goal.loop-place-preserved
loop-place-preserved c =
    let row = c.loop-place.row in
    let place = c.loop-place.place in
    let eight : place + 8 + 1 - (place + 1) ≡ 8 = omega arith in
    putting-next _ row c.copy_within.new.self place 7 (place + 8) c.args.rank c.index-row-place.result (omega arith) (omega arith) (sym c.is_up_to.ensures ∙ c.if-not-is_up_to.true)
    (c.copy_within.ensures.after ∙ ap (paste row place (drop (place + 1) row)) eight) c.loop-place.invariant
