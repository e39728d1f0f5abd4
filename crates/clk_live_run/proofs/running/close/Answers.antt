use Rattle.std.proofs.Common.{◌≡◌, ◌<◌, ℕ, length, map, List, sym, ap, ◌∙◌, subst}
use Rattle.clk_inlet.specs.Halves.{pushed, offered}
use Rattle.clk_inlet.specs.declared.inlet.Inlet.{Inlet}
use Rattle.clk_router.specs.Course.{CanClose}
use Rattle.clk_live.specs.State.{Seen, seen}
use Rattle.clk_live.proofs.Callers.Halves.{offered_same}
use Rattle.clk_live_run.specs.inside.Consuming.{HasClosed}
use Rattle.clk_live_run.proofs.Closings.{closed-from, all-drained, must-be}
use Rattle.clk_live_run.proofs.running.close.Goals as goal
use Rattle.clk_live_run.proofs.running.close.Goals.{After-live-2-1}

-- all that was sent is taken
all_taken : (g : _) (c : After-live-2-1 g) → (seen c.args.ended.consumer.live).items ≡ map offered c.args.ended.inlets.items
all_taken g c =
    let taken_all = c.has_taken_all.ensures.taken (must-be c.has_taken_all.result (λ no. c.has_taken_all.ensures.no no c.requires.ended)) in
    let same : seen c.has_taken_all.new.self ≡ seen c.args.ended.consumer.live = c.has_taken_all.ensures.unchanged.0 in
    let pushed_so : map pushed c.has_taken_all.new.inlets ≡ map pushed c.as_mut_slice.result.now = c.has_taken_all.ensures.unchanged.2 in
    sym (ap (λ (s : Seen). s.items) same) ∙ taken_all ∙ offered_same c.as_mut_slice.result.now c.has_taken_all.new.inlets pushed_so ∙ ap (λ (inlets : List Inlet). map offered inlets) c.as_mut_slice.ensures.value

pub close_devices-requires : goal.close_devices-requires
close_devices-requires g c =
    let same : seen c.has_taken_all.new.self ≡ seen c.args.ended.consumer.live = c.has_taken_all.ensures.unchanged.0 in
    record {
      can = subst (λ (s : Seen). (d : ℕ) → d < length s.course.setup.trees → CanClose s.course d 0) (sym same) (c.requires.can (all_taken g c));
    }

pub returns-clause-taken : goal.returns-clause-taken
returns-clause-taken g c = all_taken g (goal.at.returns-clause-taken g c).After-live-2-1

pub returns-clause-closed : goal.returns-clause-closed
returns-clause-closed g c =
    let same : seen c.has_taken_all.new.self ≡ seen c.args.ended.consumer.live = c.has_taken_all.ensures.unchanged.0 in
    subst (λ n. HasClosed n c.args.ended.consumer.live c.close_devices.new.live) (ap (λ (s : Seen). length s.course.setup.trees) same)
    (closed-from (length c.has_taken_all.new.self.course.setup.trees) c.args.ended.consumer.live c.has_taken_all.new.self c.close_devices.new.live same c.close_devices.ensures.closed)

pub returns-clause-outcome : goal.returns-clause-outcome
returns-clause-outcome g c =
    c.is_drained.ensures.outcome (must-be c.is_drained.result (λ no. c.is_drained.ensures.no no (all-drained c.has_taken_all.new.self c.close_devices.new.live c.close_devices.ensures.closed)))
