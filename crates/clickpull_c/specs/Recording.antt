-- What is added to a record: the script of what a router did, which stands at the front of a text of the caller's.
use Rattle.std.specs.Prelude.{◌≡◌, ◌≢◌, ℕ, ◌+◌, ◌*◌, ◌<◌, ◌≤◌, ◌==◌, Bool, true, false, List, ◌++◌, length, map, take, Option, None, IfSome}
use Rattle.std.specs.List.{list_any}
use Rattle.clk_script.specs.Record.{record_text}
use Rattle.clk_script.specs.declared.script.Command.{Command}
use Rattle.clk_script.specs.declared.script.Command.TheVariants.{Send}
use Rattle.clk_script.specs.declared.limits.TheConstants.{MAX_LINES, MAX_MOMENT}
use Rattle.clickpull_c.specs.declared.values.CPacket.{CPacket}
use Rattle.clickpull_c.specs.declared.recording.TheConstants.{MOST_LINE}
use Rattle.clickpull_c.specs.declared.statuses.TheConstants.{OK, FULL, AT_END, BAD_LENGTH}

-- the command by which a packet was offered
abbrev pub send_of : CPacket → Command
send_of p = Send p.sender p.length

-- whether a packet has no length, so that no script can say of it that it was offered
abbrev pub lacks_length : CPacket → Bool
lacks_length p = p.length == 0

-- A record of so many lines may go on with `count` lines of this moment.
pub record MayGoOn (lines count : ℕ) (moment : Option ℕ) : Type 0 where
  pub few : lines + count ≤ MAX_LINES
  pub early : IfSome moment (λ m. m ≤ MAX_MOMENT)

-- Bytes were added behind the first `used` bytes of a text, and end at this place.
pub record IsAdded (bytes before after : List ℕ) (used end : ℕ) : Type 0 where
  pub is : take end after ≡ take used before ++ bytes
  pub end_is : end ≡ used + length bytes
  pub within : end ≤ length before

-- What a call returns that adds `count` lines, which are these bytes, to a record: it added them; or else the text has no room for all of
-- them; or else the record may not go on with them.
pub data AddsLines (bytes : List ℕ) (count : ℕ) (moment : Option ℕ) (before after : List ℕ) (used used' lines lines' status : ℕ) : Type 0 where
  added : status ≡ OK → MayGoOn lines count moment → IsAdded bytes before after used used' → lines' ≡ lines + count
      → AddsLines bytes count moment before after used used' lines lines' status
  full : status ≡ FULL → MayGoOn lines count moment → length before < used + length bytes → take used after ≡ take used before → used' ≡ used → lines' ≡ lines
      → AddsLines bytes count moment before after used used' lines lines' status
  at_end : status ≡ AT_END → (MayGoOn lines count moment → ⊥) → after ≡ before → used' ≡ used → lines' ≡ lines
      → AddsLines bytes count moment before after used used' lines lines' status

-- What a call returns that adds the lines of packets that were offered: one of them has no length, and nothing was added; or else what
-- `AddsLines` says of their lines.
pub data AddsSends (packets : List CPacket) (before after : List ℕ) (used used' lines lines' status : ℕ) : Type 0 where
  bad_length : status ≡ BAD_LENGTH → list_any lacks_length packets ≡ true → after ≡ before → used' ≡ used → lines' ≡ lines
      → AddsSends packets before after used used' lines lines' status
  adds : list_any lacks_length packets ≡ false → AddsLines (record_text (map send_of packets) None) (length packets) None before after used used' lines lines' status
      → AddsSends packets before after used used' lines lines' status

-- A call that adds `count` lines finds room for them where `MOST_LINE` bytes for each stand behind those that are used.
abbrev pub FindsRoom : ℕ → List ℕ → ℕ → ℕ → Type 0
FindsRoom count text used status = used + count * MOST_LINE ≤ length text → status ≢ FULL
