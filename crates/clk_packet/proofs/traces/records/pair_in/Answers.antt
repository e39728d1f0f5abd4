use Rattle.std.proofs.Common.{◌∙◌, sym, arith}
use Rattle.csv.specs.Records.{fields_of}
use Rattle.clk_packet.proofs.FieldLemmas.{field-there, pair-of, pair-without_sender, pair-without_length}
use Rattle.clk_packet.proofs.traces.records.pair_in.Goals as goal

pub returns-in_err-get : goal.returns-in_err-get
returns-in_err-get c = absurd (field-there (fields_of c.args.fields.now) 0 (sym c.len.ensures ∙ c.if-len-ne2.false) (omega arith) c.in_err-get.ensures.value)

pub returns-in_err-get-2 : goal.returns-in_err-get-2
returns-in_err-get-2 c = absurd (field-there (fields_of c.args.fields.now) 1 (sym c.len.ensures ∙ c.if-len-ne2.false) (omega arith) c.in_err-get-2.ensures.value)

pub returns-in_err-sender : goal.returns-in_err-sender
returns-in_err-sender c =
    rw c.from_residual-in_err-sender.ensures
    (pair-without_sender (fields_of c.args.fields.now) c.in_ok-get.field-0.now (sym c.len.ensures ∙ c.if-len-ne2.false) c.in_ok-get.ensures.value c.in_err-sender.ensures)

pub returns-in_err-length : goal.returns-in_err-length
returns-in_err-length c =
    rw c.from_residual-in_err-length.ensures
    (pair-without_length (fields_of c.args.fields.now) c.in_ok-get.field-0.now c.in_ok-get-2.field-0.now (sym c.len.ensures ∙ c.if-len-ne2.false) c.in_ok-get.ensures.value c.in_ok-get-2.ensures.value c.in_err-length.ensures)

pub returns : goal.returns
returns c =
    pair-of (fields_of c.args.fields.now) c.in_ok-get.field-0.now c.in_ok-get-2.field-0.now _ _ (sym c.len.ensures ∙ c.if-len-ne2.false) c.in_ok-get.ensures.value c.in_ok-get-2.ensures.value c.in_ok-sender.ensures
    c.in_ok-length.ensures
