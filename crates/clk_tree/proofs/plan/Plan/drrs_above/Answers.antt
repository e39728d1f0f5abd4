use Rattle.std.proofs.Common.{◌≡◌, ◌+◌, ◌++◌, length, take, drop, sym, ap, subst, ◌∙◌, arith}
use Rattle.std.proofs.Math.Seq.{take-append_seam}
use Rattle.clk_tree.specs.PlanTree.{device_count}
use Rattle.clk_tree.proofs.Denoted.DrrCounts.{AreCounted, IsWritten, counted-more, counted-all, all-low}
use Rattle.clk_tree.proofs.plan.Plan.drrs_above.Goals as goal

pub loop-device-preserved : goal.loop-device-preserved
loop-device-preserved c =
    let new = c.count_drrs.new.counts in
    let same = c.deref_mut.ensures.value in
    let long : c.loop-device.counts.len ≡ length new = omega (arith, c.count_drrs.ensures.length, ap length same, c.loop-device.counts.ok) in
    let whole : take c.loop-device.counts.len (new ++ drop (length new) c.loop-device.counts.items) ≡ new =
    ap (λ n. take n (new ++ drop (length new) c.loop-device.counts.items)) long ∙ take-append_seam new (drop (length new) c.loop-device.counts.items) in
    let written : IsWritten c.in_ok-tree.tree c.loop-device.counts.items new = subst (λ old. IsWritten c.in_ok-tree.tree old new) same (record {
      long = c.count_drrs.ensures.length;
      counts = c.count_drrs.ensures.counts;
      others = c.count_drrs.ensures.others;
      limit = c.count_drrs.ensures.limit;
    }) in
    subst (AreCounted c.args.self.now (c.loop-device.device + 1)) (sym whole)
    (counted-more c.args.self.now c.loop-device.device c.in_ok-tree.tree c.loop-device.counts.items new c.loop-device.invariant c.in_ok-tree.ensures.tree (record { leads = c.in_ok-tree.ensures.leaves }) written)

pub returns-clause-counts : goal.returns-clause-counts
returns-clause-counts c =
    let all : c.loop-device.device ≡ device_count c.args.self.now = omega (arith, c.devices-device-end.ensures.count) in
    counted-all c.args.self.now c.loop-device.device c.loop-device.counts.items all c.loop-device.invariant

pub returns-clause-limit : goal.returns-clause-limit
returns-clause-limit c = all-low c.loop-device.counts.items c.loop-device.invariant.low
