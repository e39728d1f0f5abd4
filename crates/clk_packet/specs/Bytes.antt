-- What is read from a source and written to a sink, if the bytes are known.
use Rattle.std.specs.Prelude.{◌≡◌, ℕ, ◌+◌, ◌≤◌, List, ◌++◌, length, ⊤, Option, Some, None, Result, Ok, Err, ◌⊎◌, OnOk, OnErr, IfErr}
use Rattle.std.specs.Io.KnownBytes.{Appends}
use Rattle.clk_packet.specs.declared.fault.Fault.{Fault}
use Rattle.clk_packet.specs.declared.fault.Fault.TheVariants.{Memory, Read, Write}

-- A statement holds of the bytes that a source had, if they are known, and otherwise of some bytes.
abbrev pub OfBytes : Option (List ℕ) → (List ℕ → Type 0) → Type 0
OfBytes None P = (bytes : List ℕ) × P bytes
OfBytes (Some bytes) P = P bytes

-- at most so many bytes were read from the front, if the bytes are known
abbrev pub Takes : ℕ → Option (List ℕ) → Option (List ℕ) → Type 0
Takes most None new = ⊤
Takes most (Some all) None = ⊥
Takes most (Some all) (Some rest) = (front : List ℕ) × (all ≡ front ++ rest) × (length front ≤ most)

-- A read that succeeds, or fails with fault 1, leaves the number of failures of the source. One that fails with fault 19 adds 1 to it. No
-- other fault comes.
abbrev pub FailsToRead : {T : Type 0} → Result T Fault → ℕ → ℕ → Type 0
FailsToRead (Ok x) before after = after ≡ before
FailsToRead (Err fault) before after = ((fault ≡ Memory) × (after ≡ before)) ⊎ ((fault ≡ Read) × (after ≡ before + 1))

-- a beginning of the text was written, if the bytes are known
abbrev pub AppendsFront : Option (List ℕ) → Option (List ℕ) → List ℕ → Type 0
AppendsFront old new text = (front : List ℕ) × (rest : List ℕ) × (text ≡ front ++ rest) × Appends old new front

-- The whole text was written, or the sink failed once, after it had taken a front of the text (fault 20).
pub record Wrote (old new : Option (List ℕ)) (before after : ℕ) (result : Result (Unit {0}) Fault) (text : List ℕ) : Type 0 where
  pub whole : OnOk result (Appends old new text)
  pub front : OnErr result (AppendsFront old new text)
  pub fault : IfErr result (λ e. e ≡ Write)
  pub succeeds : OnOk result (after ≡ before)
  pub fails : OnErr result (after ≡ before + 1)

-- how often the reader has failed after this result: once more if it is fault 19
abbrev pub read_failures : {T : Type 0} → Result T Fault → ℕ → ℕ
read_failures (Err Read) failures = failures + 1
read_failures result failures = failures

-- how often the writer has failed after this result: once more if it is fault 20
abbrev pub write_failures : {T : Type 0} → Result T Fault → ℕ → ℕ
write_failures (Err Write) failures = failures + 1
write_failures result failures = failures
