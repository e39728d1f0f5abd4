use Rattle.std.proofs.Common.{map, length, drop}
use Rattle.clk_syntax.specs.Source.{letters}
use Rattle.clk_syntax.specs.Within.{AreWithin}
use Rattle.clk_syntax.proofs.Elements.ClassLemmas.{ReadsNumbers}
use Rattle.clk_syntax.proofs.naming.class.numbers_at.Given as goal

abbrev pub invariant-loop-token : goal.invariant-loop-token
invariant-loop-token l =
    record { reads : ReadsNumbers l.most (map (letters l.text) l.tokens) l.numbers.items (map (letters l.text) (drop l.token-index l.tokens)); within : AreWithin (length l.text) (drop l.token-index l.tokens) }
