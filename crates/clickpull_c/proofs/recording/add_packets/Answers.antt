use Rattle.std.proofs.Common.{None, refl, sym, ap₂, ◌∙◌, subst}
use Rattle.std.proofs.lemmas.List.{length-map}
use Rattle.clk_script.specs.Record.{record_text}
use Rattle.clickpull_c.specs.Recording.{AddsLines, bad_length, adds}
use Rattle.clickpull_c.proofs.Records.{sends-mapped, lack-mapped}
use Rattle.clickpull_c.proofs.recording.add_packets.Goals as goal

pub returns-then-lack_length-clause-answer : goal.returns-then-lack_length-clause-answer
returns-then-lack_length-clause-answer g c = bad_length refl (sym (lack-mapped (λ s. g.S.Sent.packet s) c.args.sent.now) ∙ sym c.lack_length.ensures ∙ c.if-lack_length.true) refl refl refl

pub returns-clause-answer : goal.returns-clause-answer
returns-clause-answer g c =
    let packet = λ (s : _). g.S.Sent.packet s in
    let sent = c.args.sent.now in
    adds (sym (lack-mapped packet sent) ∙ sym c.lack_length.ensures ∙ c.if-lack_length.false)
    (subst (λ (of : _ × _). AddsLines (record_text of.0 None) of.1 None c.args.text.now c.add_sends.new.text c.args.used.now c.add_sends.new.used c.args.lines.now c.add_sends.new.lines c.add_sends.result)
    (ap₂ (λ a b. (a, b)) (sends-mapped packet sent) (sym (length-map sent packet))) c.add_sends.ensures.answer)
