-- Records that are written as they grow.
use Rattle.std.proofs.lemmas.Bool.Decides.{nat_tests}
use Rattle.std.proofs.lemmas.Grind.{common_steps, elements}
use Rattle.std.proofs.Common.{◌≡◌, ℕ, ◌+◌, false, List, [], ◌∷◌, ◌++◌, Option, Some, None, Result, Ok, Err, IsErrOf, sym, ap, subst, ◌∙◌, append_assoc, length-append, arith, rules}
use Rattle.std.specs.Io.KnownBytes.{Appends}
use Rattle.clk_packet.specs.declared.fault.Fault.{Fault}
use Rattle.clk_packet.specs.declared.fault.Fault.TheVariants.{Write}
use Rattle.clk_packet.specs.Bytes.{Wrote, AppendsFront}
use Rattle.clk_packet.proofs.Callers.Bytes.{Appends-append}
use Rattle.clk_script.specs.declared.script.Command.{Command}
use Rattle.clk_script.specs.declared.writer.ScriptWriter.{ScriptWriter}
use Rattle.clk_script.specs.Record.{command_text, drain_text, record_text}
use Rattle.clk_script.specs.Records.{Records}
use Rattle.clk_script.specs.inside.Lines.{PassesOn}
use Rattle.clk_script.proofs.Texts.PassLemmas.{front-after}
use Rattle.clk_script.proofs.Callers.Records.{command-more, drain-more}

-- what was recorded, and a text after it
module _ (start old : Option (List ℕ)) (commands : List Command) (writer : ScriptWriter) (its : Records start old commands writer) where
  joined : (text : List ℕ) → record_text commands None ++ text ≡ its.written ++ (writer.held ++ text)
  joined text = ap (λ l. l ++ text) its.split ∙ append_assoc its.written writer.held text

  -- the text was passed on, and some of it is held
  record HasPassedOn (new : Option (List ℕ)) (text holds : List ℕ) : Type 0 where
    pub written : List ℕ
    pub split : record_text commands None ++ text ≡ written ++ holds
    pub appends : Appends start new written

  passed-on : (new : Option (List ℕ)) (f g : ℕ) (text holds : List ℕ) → PassesOn old new f g (Ok tt) writer.held text holds → HasPassedOn new text holds
  passed-on new f g text holds p =
      record {
        written = its.written ++ p.passed.0;
        split = joined text ∙ ap (λ l. its.written ++ l) p.passed.1 ∙ sym (append_assoc its.written p.passed.0 holds);
        appends = Appends-append start old new its.written p.passed.0 its.appends p.passed.2;
      }

  cut-short : (new : Option (List ℕ)) (text : List ℕ) → AppendsFront old new (writer.held ++ text) → AppendsFront start new (record_text commands None ++ text)
  cut-short new text front = subst (AppendsFront start new) (sym (joined text)) (front-after start old new its.written (writer.held ++ text) its.appends front)

-- A line more was recorded.
pub records-more : (start old new : Option (List ℕ)) (f g : ℕ) (commands : List Command) (command : Command) (writer after : ScriptWriter) → Records start old commands writer
    → PassesOn old new f g (Ok tt) writer.held (command_text command) after.held → after.lines ≡ writer.lines + 1 → after.ended ≡ false → Records start new (commands ++ command ∷ []) after
records-more start old new f g commands command writer after its p counted going =
    let has = passed-on start old commands writer its new f g (command_text command) after.held p in
    record {
      written = has.written;
      split = command-more commands command ∙ has.split;
      appends = has.appends;
      lines = counted ∙ ap (λ n. n + 1) its.lines ∙ sym (length-append commands (command ∷ []));
      going = going;
    }

-- Its line was cut short.
pub records-cut : (start old new : Option (List ℕ)) (f g : ℕ) (fault : Fault) (commands : List Command) (command : Command) (writer : ScriptWriter) (holds : List ℕ) → Records start old commands writer
    → PassesOn old new f g (Err fault) writer.held (command_text command) holds → AppendsFront start new (record_text (commands ++ command ∷ []) None)
records-cut start old new f g fault commands command writer holds its p =
    subst (AppendsFront start new) (sym (command-more commands command)) (cut-short start old commands writer its new (command_text command) p.front)

-- The line of a drain was written after what is held, or both were cut short.
pub drain-front : (start old new : Option (List ℕ)) (f g : ℕ) (r : Result (Unit {0}) Fault) (commands : List Command) (moment : ℕ) (writer : ScriptWriter) → Wrote old new f g r (writer.held ++ drain_text (Some moment))
    → Records start old commands writer → IsErrOf r Write → AppendsFront start new (record_text commands (Some moment))
drain-front start old new f g r commands moment writer w its is = search (rules, common_steps, drain-more)

-- What is held was cut short.
pub plain-front : (start old new : Option (List ℕ)) (f g : ℕ) (r : Result (Unit {0}) Fault) (commands : List Command) (writer : ScriptWriter) → Wrote old new f g r writer.held → Records start old commands writer
    → IsErrOf r Write → AppendsFront start new (record_text commands None)
plain-front start old new f g r commands writer w its is = grind (arith, common_steps, elements, nat_tests, front-after)
