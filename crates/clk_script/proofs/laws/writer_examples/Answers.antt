use Rattle.std.proofs.Common.{◌≡◌, [], ◌++◌, None, codes, get_or, length, refl, sym, ap, ◌∙◌, arith}
use Rattle.std.proofs.lemmas.Fmt.{decimal_digit}
use Rattle.clk_script.specs.Record.{record_text}
use Rattle.clk_script.specs.Examples.{one_pull}
use Rattle.clk_script.proofs.laws.writer_examples.Goals as goal

record-is : record_text one_pull None ≡ codes "pull 3\n"
record-is = rw (decimal_digit 3 (omega arith)) refl

pub returns-clause-holds : goal.returns-clause-holds
returns-clause-holds c = record { written = []; split = record-is; appends = refl; lines = refl; going = refl }

pub returns-clause-wrote : goal.returns-clause-wrote
returns-clause-wrote c = record { written = codes "pull 3\n"; split = record-is; appends = refl; lines = refl; going = refl }

pub returns-clause-wrote_some : goal.returns-clause-wrote_some
returns-clause-wrote_some c = record { written = codes "pul"; split = record-is; appends = refl; lines = refl; going = refl }

pub returns-clause-not_twice : goal.returns-clause-not_twice
returns-clause-not_twice c r =
    let same : codes "pull 3\n" ≡ codes "pull 3\npull 3\n" = sym record-is ∙ r.split ∙ ap (λ l. l ++ codes "pull 3\n") (sym r.appends) in
    let long : 7 ≡ 14 = ap length same in
    absurd (omega (arith, long))

pub returns-clause-not_another : goal.returns-clause-not_another
returns-clause-not_another c r =
    let same : codes "pull 3\n" ≡ codes "pull 4\n" = sym record-is ∙ r.split ∙ ap (λ l. l ++ codes "pull 4\n") (sym r.appends) in
    let digit : 51 ≡ 52 = ap (λ l. get_or l 5 0) same in
    absurd (omega (arith, digit))
