use Rattle.std.proofs.Common.{◌+◌, ◌≤◌, length, ap, ◌∙◌, arith}
use Rattle.clk_gate.specs.declared.limits.TheConstants.{MAX_LIMIT}
use Rattle.clk_live_run.proofs.Takings.{paced-took, paced-length, paced-round, round-early}
use Rattle.clk_live_run.proofs.consumer.RecordedLive.round.Goals as goal

pub pull_round-requires-clause-few : goal.pull_round-requires-clause-few
pull_round-requires-clause-few g c = λ d low.
    let so = paced-took c.args.step c.args.pulls c.args.self.now.live c.take_round.new.self.live c.requires.paced c.take_round.ensures.took in
    let many = ap length (so.moments d low) ∙ paced-length c.args.step c.args.pulls in
    let few = c.requires.limit in
    let first = few.0 in
    let second = few.1 in
    omega (arith, many, first, second)

pub returns-then-pulls-limit-clause-paced : goal.returns-then-pulls-limit-clause-paced
returns-then-pulls-limit-clause-paced g c = paced-took c.args.step c.args.pulls c.args.self.now.live c.take_round.new.self.live c.requires.paced c.take_round.ensures.took

pub returns-clause-paced : goal.returns-clause-paced
returns-clause-paced g c =
    let few = c.requires.limit in
    let first = few.0 in
    let second = few.1 in
    let more = c.if-pulls-limit.false in
    let low : c.args.pulls + 1 ≤ MAX_LIMIT = omega (arith, first, second, more) in
    paced-round c.args.step c.args.pulls c.args.self.now.live c.take_round.new.self.live c.pull_round.new.self.live c.requires.paced c.take_round.ensures.took c.pull_round.ensures.pulled
    (round-early (c.args.pulls + 1) c.args.step low c.requires.step)
