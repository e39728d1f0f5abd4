-- Lines that are held until they are written.
use Rattle.std.specs.Prelude.{◌≡◌, ℕ, ◌+◌, List, ◌++◌, Option, Result, OnOk, OnErr, IfErr}
use Rattle.std.specs.Io.KnownBytes.{Appends}
use Rattle.clk_packet.specs.declared.fault.Fault.{Fault}
use Rattle.clk_packet.specs.declared.fault.Fault.TheVariants.{Write}
use Rattle.clk_packet.specs.Bytes.{AppendsFront}

-- A front of what was held and a text was written, and the rest is held now. Or the sink failed once, after a front of the two.
pub record PassesOn (old new : Option (List ℕ)) (before after : ℕ) (result : Result (Unit {0}) Fault) (held text holds : List ℕ) : Type 0 where
  pub passed : OnOk result ((written : List ℕ) × (held ++ text ≡ written ++ holds) × Appends old new written)
  pub front : OnErr result (AppendsFront old new (held ++ text))
  pub fault : IfErr result (λ e. e ≡ Write)
  pub succeeds : OnOk result (after ≡ before)
  pub fails : OnErr result (after ≡ before + 1)
