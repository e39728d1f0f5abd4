-- What was written of the record of a run.
use Rattle.std.specs.Prelude.{◌≡◌, ℕ, List, map, ◌+◌, Bool, true, false, if◌then◌else◌, Option, Some}
use Rattle.std.specs.Io.KnownBytes.{Appends}
use Rattle.clk_packet.specs.Bytes.{AppendsFront}
use Rattle.clk_router.specs.Events.{Event}
use Rattle.clk_script.specs.Meaning.{command_of}
use Rattle.clk_script.specs.Record.{record_text, FitsLimits}

-- the record of a run: the script of what happened while its senders sent, and of its drain
abbrev pub run_record : List Event → List ℕ
run_record events = record_text (map command_of events) (Some 0)

-- The record of these events, in a sink that had taken `start` before. A run that was not to be recorded left the sink as it was. Otherwise
-- the record fits a script, and the sink has taken all of it, or a front of it if the sink failed.
pub record IsRecorded (recording failed : Bool) (start now : Option (List ℕ)) (events : List Event) : Type 0 where
  pub unrecorded : recording ≡ false → (now ≡ start) × (failed ≡ false)
  pub fits : recording ≡ true → FitsLimits events (Some 0)
  pub whole : recording ≡ true → failed ≡ false → Appends start now (run_record events)
  pub front : recording ≡ true → failed ≡ true → AppendsFront start now (run_record events)

-- how often a sink has failed after it failed once more, or did not
abbrev pub failures_with : Bool → ℕ → ℕ
failures_with failed before = if failed then before + 1 else before
