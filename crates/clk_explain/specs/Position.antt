-- Where an offset of a text is: its line, its column, and what of the line is shown (this project's own choice). An offset beyond the text
-- counts as its end.
use Rattle.std.specs.Prelude.{ℕ, ◌+◌, ◌-◌, List, ◌++◌, length, take, drop, codes, decimal, Bool, ◌==◌, ◌||◌, count_by}
use Rattle.std.specs.List.{before_first, after_last}
use Rattle.clk_explain.specs.declared.limits.TheConstants.{SHOWN, SHOWN_BEFORE}

abbrev pub is_feed : ℕ → Bool
is_feed byte = byte == 10

-- a line feed or a carriage return
abbrev pub is_line_end : ℕ → Bool
is_line_end byte = (byte == 10) || (byte == 13)

-- what stands on the line of an offset before it
abbrev pub line_before : List ℕ → ℕ → List ℕ
line_before text offset = after_last is_feed (take offset text)

-- what stands on the line of an offset from it on
abbrev pub line_after : List ℕ → ℕ → List ℕ
line_after text offset = before_first is_line_end (drop offset text)

-- the line of an offset, from 1: one more than there are line feeds before it
abbrev pub line_at : List ℕ → ℕ → ℕ
line_at text offset = 1 + count_by is_feed (take offset text)

-- the column of an offset, from 1, in bytes
abbrev pub column_at : List ℕ → ℕ → ℕ
column_at text offset = 1 + length (line_before text offset)

-- LINE:COLUMN of an offset
abbrev pub line_and_column : List ℕ → ℕ → List ℕ
line_and_column text offset = decimal (line_at text offset) ++ codes ":" ++ decimal (column_at text offset)

-- what is shown of the line before an offset: its last bytes
abbrev pub shown_before : List ℕ → ℕ → List ℕ
shown_before text offset = drop (length (line_before text offset) - SHOWN_BEFORE) (line_before text offset)

-- what is shown of the line from an offset on: its first bytes, as many as there is room for
abbrev pub shown_after : List ℕ → ℕ → List ℕ
shown_after text offset = take (SHOWN - length (shown_before text offset)) (line_after text offset)
