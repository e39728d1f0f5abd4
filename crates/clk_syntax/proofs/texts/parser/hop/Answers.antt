use Rattle.std.proofs.Common.{refl}
use Rattle.clk_syntax.proofs.Parsing.ParseLemmas.{reads-then, reads-as, hop-written}
use Rattle.clk_syntax.proofs.texts.parser.hop.Goals as goal

pub returns-clause-read : goal.returns-clause-read
returns-clause-read c =
    record {
      hop = record { output = c.in_ok-output.output; input = c.in_ok-input.input; name = c.in_ok-input.to };
      name = refl;
      sound = (c.in_ok-output.ensures.port, c.in_ok-input.ensures.port, c.in_ok-input.ensures.name);
      connects = c.in_ok-push.ensures.items;
      reads = reads-as (hop-written _ _ _) (reads-then c.in_ok-output.ensures.read c.in_ok-input.ensures.read);
    }
