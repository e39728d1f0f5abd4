use Rattle.std.proofs.Common.{◌+◌, ◌<◌, ◌≤◌, List, length, map, take, None, refl, sym, ap, ◌∙◌, subst, arith, length-append}
use Rattle.std.proofs.lemmas.List.{take_all}
use Rattle.clk_script.specs.Record.{command_text, record_text}
use Rattle.clickpull_c.specs.Recording.{IsAdded, added, full, send_of}
use Rattle.clickpull_c.proofs.Records.{added-keeps, sends-more, sends-front}
use Rattle.clickpull_c.proofs.recording.add_sends.Goals as goal

pub returns-in_default-clause-answer : goal.returns-in_default-clause-answer
returns-in_default-clause-answer g c =
    let l = c.loop-done in
    let sent = c.args.sent.now in
    let so_far = l.invariant.0 in
    let none = c.in_default.ensures.full refl in
    let low : l.done < length sent = (let test = c.loop-done-test.true in omega (arith, test)) in
    let more = ap length (sends-more (λ s. send_of (g.S.Sent.packet s)) sent l.done c.index-sent-done.result (send_of c.packet-packet.result) low (sym c.index-sent-done.is) (ap send_of c.packet-packet.ensures)) in
    let both = length-append (record_text (map (λ s. send_of (g.S.Sent.packet s)) (take l.done sent)) None) (command_text (send_of c.packet-packet.result)) in
    let front = sends-front (λ s. send_of (g.S.Sent.packet s)) sent (l.done + 1) in
    let too_long = none.0 in
    let end = so_far.end_is in
    let same = l.invariant.1 in
    full refl (c.if-not-may_go_on.ensures.yes refl) (omega (arith, more, both, front, too_long, end, same))
    (ap (take c.args.used.now) none.1 ∙ added-keeps (record_text (map (λ s. send_of (g.S.Sent.packet s)) (take l.done sent)) None) c.args.text.now l.text c.args.used.now l.end so_far same) refl refl

pub returns-clause-answer : goal.returns-clause-answer
returns-clause-answer g c =
    let l = c.loop-done in
    let sent = c.args.sent.now in
    let test = c.loop-done-test.false in
    let all : length sent ≤ l.done = omega (arith, test) in
    added refl (c.if-not-may_go_on.ensures.yes refl)
    (subst (λ (done : List _). IsAdded (record_text (map (λ s. send_of (g.S.Sent.packet s)) done) None) c.args.text.now l.text c.args.used.now l.end) (take_all l.done sent all) l.invariant.0) refl
