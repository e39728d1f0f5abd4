use Rattle.std.proofs.Common.{◌∙◌, ◌++◌, ap, decimal, drop, arith}
use Rattle.std.proofs.lemmas.Fmt.{length-decimal-le}
use Rattle.clk_report.proofs.RowLemmas.{number-plain}
use Rattle.clk_report.proofs.row.put_short_field.Goals as goal

pub write_digits-requires : goal.write_digits-requires
write_digits-requires c =
    let short = length-decimal-le 5 c.from.result (omega arith) (omega arith) (omega arith) in
    (omega arith, omega arith)

pub returns-clause-piece : goal.returns-clause-piece
returns-clause-piece c = rw (number-plain c.args.number (omega arith)) (c.write_digits.ensures.written ∙ ap (λ n. decimal n ++ drop c.args.end c.args.rows.now) c.from.ensures)

pub returns-clause-near : goal.returns-clause-near
returns-clause-near c =
    let short = length-decimal-le 5 c.from.result (omega arith) (omega arith) (omega arith) in
    omega arith
