use Rattle.std.proofs.Common.{◌++◌, List, [], ◌∷◌, None, ap₂, ◌∙◌, arith}
use Rattle.clk_sched.specs.declared.visit.Visit.{Visit}
use Rattle.clk_sched.specs.Log.{asking}
use Rattle.clk_sched.specs.Packed.{logged}
use Rattle.clk_sched.proofs.Lists.Ranges.{range-next}
use Rattle.clk_sched.proofs.session.packed.PackedLog.push_idle.Goals as goal

pub push-requires : goal.push-requires
push-requires c =
    let room = c.loop-place.invariant.room c.args.idle.now.count c.requires.room in
    (let p = room.0 in omega (arith, p), let r = room.1 in omega (arith, r))

pub loop-place-preserved : goal.loop-place-preserved
loop-place-preserved c =
    let idle = c.args.idle.now in
    let so_far = c.loop-place.invariant in record {
      visits = c.push.ensures.visits ∙ ap₂ (λ (xs : List Visit) (v : Visit). xs ++ v ∷ []) so_far.visits c.visit.ensures ∙ range-next (λ i. asking idle.pull idle.moment idle.node i None) (logged c.args.self.now) idle.first c.loop-place.place;
      room = λ n held. let more = c.push.ensures.room _ (so_far.room n held) in (let p = more.0 in omega (arith, p), let r = more.1 in omega (arith, r));
    }
