use Rattle.std.proofs.Common.{refl, ◌∙◌, sym}
use Rattle.clk_syntax.proofs.Parsing.ParseLemmas.{chain-read, declaration-read}
use Rattle.clk_syntax.proofs.texts.parser.named.Goals as goal

pub returns-then-goes_on-clause-read : goal.returns-then-goes_on-clause-read
returns-then-goes_on-clause-read c =
    chain-read _ c.requires (sym c.goes_on.ensures ∙ c.if-goes_on.true) c.in_ok-to.ensures.read c.in_ok-rest.ensures.read refl

pub returns-clause-read : goal.returns-clause-read
returns-clause-read c =
    declaration-read c.in_ok-declaration.declaration c.requires (sym c.goes_on.ensures ∙ c.if-goes_on.false) c.in_ok-declaration.ensures.read c.in_ok-push.ensures.items refl
