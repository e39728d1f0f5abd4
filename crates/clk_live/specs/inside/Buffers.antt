-- Buffers of tokens.
use Rattle.std.specs.Prelude.{ℕ, List}
use Rattle.circular_buffer.specs.Buffer.{Buffer}

-- the tokens in a buffer
abbrev pub buffer_items : Buffer ℕ → List ℕ
buffer_items b = b.items
