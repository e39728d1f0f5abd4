-- How far a record has come.
use Rattle.std.specs.Prelude.{◌≡◌, ◌+◌, ◌<◌, ◌≤◌, ℕ, List, length, Bool, true, false, Option, Some, None}
use Rattle.std.specs.Io.KnownBytes.{Appends}
use Rattle.clk_packet.specs.Bytes.{AppendsFront}
use Rattle.clk_script.specs.declared.script.Command.{Command}
use Rattle.clk_script.specs.Record.{record_text}
use Rattle.clk_script.specs.Records.{Records}
use Rattle.clk_script.specs.declared.limits.TheConstants.{MAX_LINES}
use Rattle.clk_script.specs.declared.writer.ScriptWriter.{ScriptWriter}
use Rattle.clk_live_run.specs.declared.recording.RecordState.{RecordState}
use Rattle.clk_live_run.specs.declared.recording.RecordState.TheVariants.{Off, Going, Failed, Full}

-- what a sink has taken, and how often it failed
pub record SinkAt : Type 0 where
  pub taken : Option (List ℕ)
  pub failures : ℕ

-- a recording, as contracts see it: its sink, how far the record has come, and the writer
pub record RecordAt : Type 0 where
  pub sink : SinkAt
  pub state : RecordState
  pub writer : ScriptWriter

-- The sink, which stood at `start` before, has the record of these commands, as far as the record has come.
abbrev pub StandsAs : RecordState → (recording : Bool) → (start now : SinkAt) → ScriptWriter → List Command → Type 0
StandsAs Off recording start now writer commands = (recording ≡ false) × (now ≡ start)
StandsAs Going recording start now writer commands = (recording ≡ true) × (now.failures ≡ start.failures) × Records start.taken now.taken commands writer
StandsAs Failed recording start now writer commands = (recording ≡ true) × (now.failures ≡ start.failures + 1) × AppendsFront start.taken now.taken (record_text commands None)
StandsAs Full recording start now writer commands = (recording ≡ true) × (MAX_LINES ≤ length commands)

-- This is the record of these commands, begun when the sink stood at `start`, if the run is recorded.
abbrev pub IsRecordOf : (recording : Bool) → (start : SinkAt) → RecordAt → List Command → Type 0
IsRecordOf recording start r commands = StandsAs r.state recording start r.sink r.writer commands

-- A record of the commands before became one of the commands after.
abbrev pub LeadsOn : (old new : RecordAt) → (before after : List Command) → Type 0
LeadsOn old new before after = (recording : Bool) (start : SinkAt) → IsRecordOf recording start old before → IsRecordOf recording start new after

-- A record with its drain has ended. If there was no record, the sink is unchanged. Otherwise, if all lines fit a script, the sink has the
-- whole record or, if it failed, a front of it.
pub record IsEnded (recording failed : Bool) (start now : SinkAt) (commands : List Command) : Type 0 where
  pub unrecorded : recording ≡ false → (now ≡ start) × (failed ≡ false)
  pub whole : recording ≡ true → length commands < MAX_LINES → failed ≡ false → (now.failures ≡ start.failures) × Appends start.taken now.taken (record_text commands (Some 0))
  pub front : recording ≡ true → length commands < MAX_LINES → failed ≡ true → (now.failures ≡ start.failures + 1) × AppendsFront start.taken now.taken (record_text commands (Some 0))
