-- How the record of a run goes on.
use Rattle.std.proofs.Common.{◌≡◌, ℕ, ◌+◌, Bool, true, true≢false, List, [], ◌∷◌, ◌++◌, Option, Some, None, refl, sym, ap, ◌∙◌, subst, arith}
use Rattle.std.proofs.lemmas.List.{append_assoc, length-append}
use Rattle.clk_packet.specs.Bytes.{AppendsFront}
use Rattle.clk_script.specs.declared.script.Command.{Command}
use Rattle.clk_script.specs.Record.{command_text, drain_text, record_text}
use Rattle.clk_live_run.specs.declared.recording.RecordState.{RecordState}
use Rattle.clk_live_run.specs.declared.recording.RecordState.TheVariants.{Off, Going, Failed, Full}
use Rattle.clk_live_run.specs.inside.Recording.{SinkAt, RecordAt, StandsAs, IsRecordOf, IsEnded}

-- a front of a text is one of a longer text
front-longer : (old now : Option (List ℕ)) (text more longer : List ℕ) → longer ≡ text ++ more → AppendsFront old now text → AppendsFront old now longer
front-longer old now text more longer is h = (h.0, h.1 ++ more, is ∙ ap (λ t. t ++ more) h.2 ∙ append_assoc h.0 h.1 more, h.3)

-- A record that has ended stays as it is.
pub ended-stays : (r : RecordAt) (commands : List Command) (command : Command) → record_text (commands ++ command ∷ []) None ≡ record_text commands None ++ command_text command → (r.state ≡ Going → ⊥) → (recording : Bool) (start : SinkAt)
    → IsRecordOf recording start r commands → IsRecordOf recording start r (commands ++ command ∷ [])
ended-stays r commands command grows ended recording start = by_state r.state refl
  where
    by_state : (s : RecordState) → r.state ≡ s → StandsAs s recording start r.sink r.writer commands → StandsAs s recording start r.sink r.writer (commands ++ command ∷ [])
    by_state Off e h = h
    by_state Going e h = absurd (ended e)
    by_state Failed e h = (h.0, h.1, front-longer start.taken r.sink.taken (record_text commands None) (command_text command) _ grows h.2)
    by_state Full e h = (h.0, let many = length-append commands (command ∷ []) in let low = h.1 in omega (arith, many, low))

-- The drain of a record that has ended, by how far it had come.
pub ended-failed : (recording : Bool) (start now : SinkAt) (commands : List Command) → record_text commands (Some 0) ≡ record_text commands None ++ drain_text (Some 0)
    → (recording ≡ true) × (now.failures ≡ start.failures + 1) × AppendsFront start.taken now.taken (record_text commands None) → IsEnded recording true start now commands
ended-failed recording start now commands grows h =
    record {
      unrecorded = λ e. absurd (true≢false (sym h.0 ∙ e));
      whole = λ e few f. absurd (true≢false f);
      front = λ e few f. (h.1, front-longer start.taken now.taken (record_text commands None) (drain_text (Some 0)) _ grows h.2);
    }

-- the drain of a record whose sink has failed
pub failed-ended : (r : RecordAt) (commands : List Command) → record_text commands (Some 0) ≡ record_text commands None ++ drain_text (Some 0) → r.state ≡ Failed → (recording : Bool) (start : SinkAt) → IsRecordOf recording start r commands
    → IsEnded recording true start r.sink commands
failed-ended r commands grows is recording start h = ended-failed recording start r.sink commands grows (subst (λ s. StandsAs s recording start r.sink r.writer commands) is h)
