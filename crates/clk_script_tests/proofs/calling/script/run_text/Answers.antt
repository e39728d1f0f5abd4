use Rattle.std.proofs.Common.{ℕ, List, Option, subst}
use Rattle.std.proofs.lemmas.Result.{on_ok_weaker}
use Rattle.std.specs.Io.KnownBytes.{Appends}
use Rattle.clk_packet.specs.Bytes.{OfBytes}
use Rattle.clk_tree.specs.Plan.{Planned}
use Rattle.clk_script.specs.Meaning.{MeansOver}
use Rattle.clk_script_tests.proofs.calling.script.run_text.Goals as goal

-- a text was written that is the script's meaning
abbrev IsWritten : List Planned → Option (List ℕ) → Option (List ℕ) → Option (List ℕ) → Type 0
IsWritten plan old new script = (text : List ℕ) × OfBytes script (λ bytes. MeansOver plan bytes text) × Appends old new text

pub returns-clause-some : goal.returns-clause-some
returns-clause-some g c =
    let old = g.W.Sink.taken c.args.writer.now in
    let new = g.W.Sink.taken c.run_script.new.writer in
    on_ok_weaker c.run_script.result
    (λ whole. let written = subst (IsWritten c.args.plan.now old new) c.new-reader.ensures.remaining whole in (written.0, written.1))
    c.run_script.ensures.wrote.whole

pub returns-clause-written : goal.returns-clause-written
returns-clause-written g c =
    let old = g.W.Sink.taken c.args.writer.now in
    let new = g.W.Sink.taken c.run_script.new.writer in
    on_ok_weaker c.run_script.result
    (λ whole text means.
    let written = subst (IsWritten c.args.plan.now old new) c.new-reader.ensures.remaining whole in
    let same = c.plans_have_at_most_one_meaning.ensures.texts c.args.script.now written.0 text written.1 means in
    subst (λ (t : List ℕ). Appends old new t) same written.2)
    c.run_script.ensures.wrote.whole
