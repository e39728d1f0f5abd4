-- A text and a visit file, each of one byte, and a sink.
use Rattle.std.specs.Prelude.{◌≡◌, ℕ, List, [], ◌∷◌, Option, Some}

-- this text and this visit file have one byte each, `A` and `B`
abbrev pub IsOneByteEach : List ℕ → List ℕ → Type 0
IsOneByteEach text visits = (text ≡ 65 ∷ []) × (visits ≡ 66 ∷ [])

-- a sink: the bytes that it took, and how often it failed
pub record SinkOf : Type 0 where
  pub bytes : List ℕ
  pub failures : ℕ

-- a sink that took these bytes and failed so often
abbrev pub sink_of : List ℕ → ℕ → SinkOf
sink_of bytes failures = record { bytes = bytes; failures = failures }

-- what a sink took
abbrev pub taken_by : SinkOf → Option (List ℕ)
taken_by sink = Some sink.bytes
