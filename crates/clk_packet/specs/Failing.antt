-- What callers see of a `FailingSource` and a `FailingSink`.
use Rattle.std.specs.Prelude.{ℕ, ◌+◌, ◌-◌, List, [], ◌++◌, length, drop}

-- the bytes left to give, how many more are given before each read fails, and how many reads have failed
pub record SourceState : Type 0 where
  pub left : List ℕ
  pub until : ℕ
  pub failures : ℕ

-- a source that has given nothing, of these bytes, which fails once it has given `limit` of them
abbrev pub new_source : List ℕ → ℕ → SourceState
new_source bytes limit = record { left = bytes; until = limit; failures = 0 }

-- the source once a read has given n more bytes
abbrev pub source_after_read : ℕ → SourceState → SourceState
source_after_read n s = record { left = drop n s.left; until = s.until - n; failures = s.failures }

-- the source once one more read has failed
abbrev pub source_after_failure : SourceState → SourceState
source_after_failure s = record { left = s.left; until = s.until; failures = s.failures + 1 }

-- the bytes taken, how many more there is room for, and how many writes have failed
pub record SinkState : Type 0 where
  pub taken : List ℕ
  pub room : ℕ
  pub failures : ℕ

-- a sink that has taken nothing and has room for n bytes
abbrev pub new_sink : ℕ → SinkState
new_sink n = record { taken = []; room = n; failures = 0 }

-- the sink once a write has added these bytes
abbrev pub sink_after_write : List ℕ → SinkState → SinkState
sink_after_write bytes s = record { taken = s.taken ++ bytes; room = s.room - length bytes; failures = s.failures }

-- the sink once one more write has failed
abbrev pub sink_after_failure : SinkState → SinkState
sink_after_failure s = record { taken = s.taken; room = s.room; failures = s.failures + 1 }
