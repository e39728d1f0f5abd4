use Rattle.std.proofs.Common.{sym, subst}
use Rattle.clk_live.specs.State.{LiveState, AllGoOn}
use Rattle.clk_live.proofs.Callers.Halves.{all_same, all_then}
use Rattle.clk_live_tests.proofs.seen.take_and_pull.Goals as goal
use Rattle.clk_live_tests.proofs.seen.take_and_pull.Goals.{in-None, in-Some+then-len-most, in-Some+else-len-most+else-is_over+in_ok-take_turn+in-AtEnd}

pub loop-init : goal.loop-init
loop-init g c = (tt, tt, all_same c.args.live.now.outlets)

pub returns-in_err-take_turn : goal.returns-in_err-take_turn
returns-in_err-take_turn g c = record { outlets = all_then c.args.live.now.outlets c.loop.live.outlets c.take_turn.new.live.outlets c.loop.invariant.2 c.take_turn.ensures.outlets }

pub loop-preserved-in-Moved : goal.loop-preserved-in-Moved
loop-preserved-in-Moved g c = (tt, tt, all_then c.args.live.now.outlets c.loop.live.outlets c.take_turn.new.live.outlets c.loop.invariant.2 c.take_turn.ensures.outlets)

pub loop-preserved : goal.loop-preserved
loop-preserved g c = (tt, tt, all_then c.args.live.now.outlets c.loop.live.outlets c.take_turn.new.live.outlets c.loop.invariant.2 c.take_turn.ensures.outlets)

pub returns : goal.returns
returns g c =
    let old = c.args.live.now.outlets in
    record {
      outlets = elim c.match-next.branch [
        | in-None w ↦ subst (λ (l : LiveState). AllGoOn old l.outlets) (sym w.live-is) c.loop.invariant.2
        | in-Some+then-len-most w ↦ subst (λ (l : LiveState). AllGoOn old l.outlets) (sym w.live-is) c.loop.invariant.2
        | in-Some+else-len-most+else-is_over+in_ok-take_turn+in-AtEnd w ↦ subst (λ (l : LiveState). AllGoOn old l.outlets) (sym w.live-is) (all_then old c.loop.live.outlets w.take_turn.new.live.outlets c.loop.invariant.2 w.take_turn.ensures.outlets)
      ];
    }
