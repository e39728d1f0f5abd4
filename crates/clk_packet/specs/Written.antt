-- What a call wrote that writes a text of some meaning.
use Rattle.std.specs.Prelude.{◌≢◌, ℕ, List, Option, Result, OnOk, IfErr, IsErrOf}
use Rattle.std.specs.Io.KnownBytes.{Appends, Keeps}
use Rattle.clk_packet.specs.declared.fault.Fault.{Fault}
use Rattle.clk_packet.specs.declared.fault.Fault.TheVariants.{Write}
use Rattle.clk_packet.specs.Bytes.{AppendsFront}

-- What a call wrote whose text has this meaning: all of the text if it succeeded, a beginning of it if the sink failed, and nothing at any
-- other fault.
pub record WroteWhat {T : Type 0} (Means : List ℕ → Type 0) (result : Result T Fault) (old new : Option (List ℕ)) : Type 0 where
  pub whole : OnOk result ((text : List ℕ) × Means text × Appends old new text)
  pub front : IsErrOf result Write → (text : List ℕ) × Means text × AppendsFront old new text
  pub nothing : IfErr result (λ fault. fault ≢ Write → Keeps old new)
