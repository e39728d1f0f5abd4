use Rattle.std.proofs.Common.{◌≡◌, ◌++◌, Err, length, nat_lt, sym, ap, subst, ◌∙◌}
use Rattle.std.proofs.lemmas.Result.{err_from_is_err_and}
use Rattle.clk_packet.specs.Bytes.{Wrote}
use Rattle.clk_packet.proofs.Callers.Bytes.{Wrote-then, Wrote-cut}
use Rattle.clk_report.specs.VisitCsv.{header_of, visits_text}
use Rattle.clk_router.specs.Events.{Setup}
use Rattle.clk_script.specs.inside.Replay.{logs_in, device_rows}
use Rattle.clk_script.proofs.Carrying.ReplayLemmas.{rows-all}
use Rattle.clk_script.proofs.replay.Replay.write.Goals as goal

pub returns-in_err-visits_header : goal.returns-in_err-visits_header
returns-in_err-visits_header g c =
    let p = err_from_is_err_and c.from_residual.result c.from_residual.ensures.1 in
    let answer = c.self.inside.answer in
    let several = nat_lt 1 c.devices-several.result in
    let count = c.devices-several.ensures.count ∙ ap (λ (s : Setup). length s.trees) (sym c.self.invariant.0.answers.setup_is) in
    let all : header_of several ++ device_rows several 0 (logs_in answer) ≡ visits_text c.args.self = rows-all _ _ several (ap (nat_lt 1) count) ∙ ap visits_text c.self.view_is in
    rw (p.1, p.2)
    (subst (λ t. Wrote (g.W.Sink.taken c.args.writer.now) (g.W.Sink.taken c.visits_header.new.writer) (g.W.Sink.failures c.args.writer.now) (g.W.Sink.failures c.visits_header.new.writer) (Err c.in_err-visits_header.field-0.0) t) all
    (Wrote-cut _ _ _ _ _ (header_of several) (device_rows several 0 (logs_in answer)) c.in_err-visits_header.ensures))

pub returns : goal.returns
returns g c =
    let answer = c.self.inside.answer in
    let several = nat_lt 1 c.devices-several.result in
    let count = c.devices-several.ensures.count ∙ ap (λ (s : Setup). length s.trees) (sym c.self.invariant.0.answers.setup_is) in
    let all : header_of several ++ device_rows several 0 (logs_in answer) ≡ visits_text c.args.self = rows-all _ _ several (ap (nat_lt 1) count) ∙ ap visits_text c.self.view_is in
    subst (λ t. Wrote (g.W.Sink.taken c.args.writer.now) (g.W.Sink.taken c.replay_devices.new.writer) (g.W.Sink.failures c.args.writer.now) (g.W.Sink.failures c.replay_devices.new.writer) c.replay_devices.result t) all
    (Wrote-then _ _ _ _ _ _ _ _ (header_of several) (device_rows several 0 (logs_in answer)) c.in_ok-visits_header.ensures c.replay_devices.ensures)
