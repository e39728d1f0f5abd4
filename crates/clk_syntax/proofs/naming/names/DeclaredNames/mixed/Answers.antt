use Rattle.std.proofs.Common.{◌≡◌, ◌∙◌, ◌-◌, length, take, drop, true, false, nat_le, if◌then◌else◌, sym, ap, ap₂, arith}
use Rattle.std.proofs.lemmas.Bool.Decides.{nat_tests}
use Rattle.clk_syntax.specs.inside.Naming.{mixed_from, mixed}
use Rattle.clk_syntax.proofs.naming.names.DeclaredNames.mixed.Goals as goal

pub returns-then-name-le32 : goal.returns-then-name-le32
unfolding mixed
returns-then-name-le32 c =
    let name = c.args.name.now in
    let short : nat_le (length name) 32 ≡ true = grind (arith, nat_tests) in
    c.mixed_from.ensures ∙ ap (λ b. if b then mixed_from 0 name else mixed_from (mixed_from 0 (take 16 name)) (drop (length name - 16) name)) (sym short)

pub returns : goal.returns
unfolding mixed
returns c =
    let name = c.args.name.now in
    let long : nat_le (length name) 32 ≡ false = grind (arith, nat_tests) in
    let first = c.mixed_from-2.ensures ∙ ap (mixed_from 0) c.split_at.ensures.front in
    c.mixed_from-3.ensures ∙ ap₂ mixed_from first c.split_at-2.ensures.back
    ∙ ap (λ b. if b then mixed_from 0 name else mixed_from (mixed_from 0 (take 16 name)) (drop (length name - 16) name)) (sym long)
