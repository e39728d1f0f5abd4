use Rattle.std.proofs.Common.{◌+◌, ◌<◌, length, take, subst, sym, ◌∙◌, arith}
use Rattle.clk_packet.specs.Trace.{sent_by}
use Rattle.clk_inlet.specs.declared.inlet.Inlet.{Inlet}
use Rattle.clk_live.specs.Sending.{HasSent}
use Rattle.clk_live_run.specs.inside.Consuming.{items_of}
use Rattle.clk_live_run.proofs.Sendings.{sent-next, sent-all, none-there}
use Rattle.clk_live_run.proofs.senders.send_all.Goals as goal
use Rattle.clk_live_run.proofs.senders.send_all.Goals.{in-Some, in_default}

pub loop-n-preserved : goal.loop-n-preserved
loop-n-preserved g c =
    let packets = sent_by c.args.traces.now c.args.number in
    let n = c.loop-n.n in
    let low : n < length packets = (let test = c.loop-n-test.true in let many = c.count-n-end.ensures.count in omega (arith, test, many)) in
    elim c.match-sent.branch [
      | in-Some w ↦
          subst (λ (i : Inlet). HasSent c.args.inlet (items_of (take (n + 1) packets)) i) (sym w.inlet-is)
          (sent-next c.args.inlet c.loop-n.inlet w.offer.new.inlet packets n w.in-Some.packet (sym c.sent.ensures.packet ∙ w.in-Some.is) c.loop-n.invariant w.offer.ensures.sent)
      | in_default w ↦ absurd (none-there packets n low (sym c.sent.ensures.packet ∙ w.in_default.is))
    ]

pub returns : goal.returns
returns g c =
    let packets = sent_by c.args.traces.now c.args.number in
    let test = c.loop-n-test.false in
    let many = c.count-n-end.ensures.count in
    record { sent = sent-all c.args.inlet c.loop-n.inlet c.end.new.self packets c.loop-n.n (omega (arith, test, many)) c.loop-n.invariant c.end.ensures.unchanged c.end.ensures.halves }
