use Rattle.std.proofs.Common.{◌≡◌, ◌≤◌, drop}
use Rattle.clk_script.proofs.Texts.NumberLemmas.{Reads}
use Rattle.clk_script.proofs.fields.first_number.Given as goal

abbrev pub invariant-loop-byte : goal.invariant-loop-byte
invariant-loop-byte l = record { reads : Reads l.text l.number (drop l.byte-index l.field); small : l.number ≤ l.most; len : l.len ≡ l.byte-index }
