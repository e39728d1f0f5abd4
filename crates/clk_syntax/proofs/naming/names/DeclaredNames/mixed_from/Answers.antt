use Rattle.std.proofs.Common.{◌+◌, ◌*◌, ◌%◌, ◌^◌, ◌∙◌, drop, ap, sym}
use Rattle.std.proofs.lemmas.List.{drop_more}
use Rattle.clk_syntax.specs.inside.Naming.{mixed_from}
use Rattle.clk_syntax.proofs.naming.names.DeclaredNames.mixed_from.Goals as goal

pub loop-byte-preserved : goal.loop-byte-preserved
loop-byte-preserved c =
    let bytes = c.args.bytes.now in
    let i = c.loop-byte.byte-index in
    let next = drop_more bytes i 0 c.loop-byte-test.true in
    ap (λ byte. mixed_from ((c.loop-byte.mixed * 11400714819323198485 % 2 ^ 64 + byte) % 2 ^ 64) (drop (i + 1) bytes)) c.from.ensures ∙ ap (mixed_from c.loop-byte.mixed) (sym next) ∙ c.loop-byte.invariant
