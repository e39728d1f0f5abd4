use Rattle.std.proofs.Common.{Bor, List, ℕ, Some, ◌∙◌, inl, inr, sym, subst, rules, arith}
use Rattle.std.proofs.lemmas.Result.{err_from_is_err_and}
use Rattle.csv.specs.Reading.{default_config}
use Rattle.csv.specs.Records.{fields_of}
use Rattle.csv.proofs.ReadFacts.{rows-end}
use Rattle.clk_packet.proofs.TraceLemmas.{Stands, Stands-none, Stands-end, Stands-fault, Stands-more, goes-read, row-few, trace_fault-short}
use Rattle.clk_packet.proofs.traces.records.read_text.Goals as goal

pub loop-row-init : goal.loop-row-init
loop-row-init c =
    let made = c.from_reader-reader.ensures in
    record {
      plain = search rules;
      ready = search rules;
      config = search rules;
      short = omega arith;
      stands = subst (Stands c.args.text.now 1 _ _) (sym c.new-traces.ensures) (Stands-none _ _ _ made.state (search rules));
    }

pub returns-then-not-found : goal.returns-then-not-found
returns-then-not-found c =
    let inv = c.loop-row.invariant in
    let stands = inv.stands in
    let few = stands.few in
    let short = inv.short in
    let read = rw c.if-not-found.true at (c.in-Ok.ensures.reads inv.plain inv.ready) in
    let none = rows-end (λ (s : Bor (List ℕ)). Some s.now) c.loop-row.reader c.read_byte_record.new.self (fields_of c.read_byte_record.new.row) default_config stands.rest inv.config stands.left_is read in
    let end = Stands-end _ _ _ _ _ stands none in
    (trace_fault-short c.args.text.now c.if-text-gt-MAX_TRACE_BYTES.false ∙ end.sound, end.sent_is, omega (arith, few, short))

pub returns-in_err-sender : goal.returns-in_err-sender
returns-in_err-sender c =
    let p = err_from_is_err_and c.from_residual-in_err-sender.result c.from_residual-in_err-sender.ensures.1 in
    let inv = c.loop-row.invariant in
    let stands = inv.stands in
    let read = rw c.if-not-found.false at (c.in-Ok.ensures.reads inv.plain inv.ready) in
    let goes = goes-read (λ (s : Bor (List ℕ)). Some s.now) c.loop-row.reader c.read_byte_record.new.self (fields_of c.read_byte_record.new.row) stands.rest inv.config stands.left_is read in
    rw (p.1, p.2) (inr (trace_fault-short c.args.text.now c.if-text-gt-MAX_TRACE_BYTES.false ∙ Stands-fault _ _ _ _ _ _ _ _ _ stands goes c.in_err-sender.ensures))

pub loop-row-preserved : goal.loop-row-preserved
loop-row-preserved c =
    let inv = c.loop-row.invariant in
    let stands = inv.stands in
    let read = rw c.if-not-found.false at (c.in-Ok.ensures.reads inv.plain inv.ready) in
    let goes = goes-read (λ (s : Bor (List ℕ)). Some s.now) c.loop-row.reader c.read_byte_record.new.self (fields_of c.read_byte_record.new.row) stands.rest inv.config stands.left_is read in
    let few = row-few c.loop-row.row (fields_of c.read_byte_record.new.row) c.in_ok-sender.ensures.0 in
    record {
      plain = read.3 ∙ inv.plain;
      ready = inl (c.in-Ok.ensures.ready inv.plain);
      config = read.2 ∙ inv.config;
      short = omega (arith, few);
      stands = Stands-more _ _ _ _ _ _ _ _ _ _ stands goes c.in_ok-sender.ensures.0 c.in_ok-sender.ensures.1 c.in_ok-add.ensures.added;
    }
