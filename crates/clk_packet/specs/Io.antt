-- What sources and sinks of bytes say of their failures.
use Rattle.std.specs.Prelude.{ℕ, ◌+◌, Ok, Err, Result}

-- How many calls have failed after one more call with this result. A call that fails moves no byte.
abbrev pub failures_after : {T E : Type 0} → Result T E → ℕ → ℕ
failures_after (Ok x) failures = failures
failures_after (Err e) failures = failures + 1
