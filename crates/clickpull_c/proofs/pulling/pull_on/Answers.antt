use Rattle.std.proofs.Common.{◌<◌, length, refl, ◌∙◌, arith}
use Rattle.std.proofs.lemmas.List.{length-set}
use Rattle.clickpull_c.specs.Calls.{at_end}
use Rattle.clickpull_c.proofs.SoFar.{gave-more}
use Rattle.clickpull_c.proofs.pulling.pull_on.Goals as goal

pub returns-then-not-can_pull : goal.returns-then-not-can_pull
returns-then-not-can_pull c =
    let l = c.loop-given in
    let low : l.given < length l.packets = grind arith in
    let so_far = gave-more c.args.router.now l.router c.pull.new.self c.args.device c.args.moment c.args.packets.now l.packets l.given c.packet_for_c.result l.invariant.1 low l.invariant.0
    (record { packet = c.in-Some.packet; pulled = c.in-Some.ensures.pulled; filled_is = c.packet_for_c.ensures }) in
    record {
      last = c.pull.new.self;
      within = so_far.within;
      gave = so_far.gave;
      others = so_far.others;
      ends = at_end (omega arith) (rw c.deref.ensures at (c.if-not-can_pull.ensures.no refl)) refl;
    }

pub loop-given-preserved : goal.loop-given-preserved
loop-given-preserved c =
    let l = c.loop-given in
    let low : l.given < length l.packets = grind arith in (
      gave-more c.args.router.now l.router c.pull.new.self c.args.device c.args.moment c.args.packets.now l.packets l.given c.packet_for_c.result l.invariant.1 low l.invariant.0
          (record { packet = c.in-Some.packet; pulled = c.in-Some.ensures.pulled; filled_is = c.packet_for_c.ensures }),
      length-set l.packets l.given c.packet_for_c.result ∙ l.invariant.1,
      rw c.deref.ensures at (c.if-not-can_pull.ensures.yes refl),
    )
