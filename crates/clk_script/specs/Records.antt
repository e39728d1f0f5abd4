-- What a writer of a record has done.
use Rattle.std.specs.Prelude.{◌≡◌, ℕ, false, List, ◌++◌, length, Option, None}
use Rattle.std.specs.Io.KnownBytes.{Appends}
use Rattle.clk_script.specs.declared.script.Command.{Command}
use Rattle.clk_script.specs.declared.writer.ScriptWriter.{ScriptWriter}
use Rattle.clk_script.specs.Record.{record_text}

-- The writer has recorded these commands, since its sink had taken the bytes `start`: a front of their record was written, and the writer
-- holds the rest. The sink has not failed.
pub record Records (start now : Option (List ℕ)) (commands : List Command) (writer : ScriptWriter) : Type 0 where
  pub written : List ℕ
  pub split : record_text commands None ≡ written ++ writer.held
  pub appends : Appends start now written
  pub lines : writer.lines ≡ length commands
  pub going : writer.ended ≡ false
