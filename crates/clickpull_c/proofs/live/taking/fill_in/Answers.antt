use Rattle.std.proofs.Common.{◌≡◌, ◌+◌, ◌<◌, ◌++◌, ◌∷◌, [], length, map, take, slice_set, sym, subst, arith}
use Rattle.clickpull_c.specs.Filled.{IsFilled}
use Rattle.clickpull_c.specs.live.Values.{taken_in_c}
use Rattle.clickpull_c.proofs.Fills.{fill-more, front-length, front-more}
use Rattle.clickpull_c.proofs.live.taking.fill_in.Goals as goal

pub loop-done-preserved : goal.loop-done-preserved
loop-done-preserved c =
    let l = c.loop-done in
    let slots = c.args.slots.now in
    let before = c.args.taken.now in
    let y = c.taken_for_c.result in
    let front = map taken_in_c (take l.done slots) in
    let fits : l.done < c.args.count = (let test = c.loop-done-test.true in omega (arith, test)) in
    let low : l.done < length slots = (let within = c.requires.within in omega (arith, fits, within)) in
    let place : l.done < length before = (let within = c.requires.within in omega (arith, fits, within)) in
    let many : length front ≡ l.done = front-length taken_in_c slots l.done (omega (arith, low)) in
    let more : map taken_in_c (take (l.done + 1) slots) ≡ front ++ y ∷ [] = front-more taken_in_c slots l.done c.index-slots-done.result y low (sym c.index-slots-done.is) c.taken_for_c.ensures in
    (omega (arith, fits), subst (λ f. IsFilled before (slice_set l.taken l.done y) f) (sym more) (fill-more before l.taken front y l.done many place l.invariant.1))
