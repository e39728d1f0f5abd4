use Rattle.std.proofs.Common.{ap, ◌∙◌, ◌++◌, codes, decimal, drop}
use Rattle.clk_report.specs.Counts.{sent_in, words_text}
use Rattle.clk_report.proofs.ReportLemmas.{line-joined}
use Rattle.clk_report.proofs.line.put_line.Goals as goal

pub returns-clause-piece : goal.returns-clause-piece
returns-clause-piece c =
    let counts = c.args.counts.now in
    line-joined (codes "sender ") (decimal counts.sender) (words_text (codes ": sent") (sent_in counts)) (words_text (codes ", accepted") counts.accepted) (words_text (codes ", refused") counts.refused)
    (words_text (codes ", evicted") counts.evicted) (words_text (codes ", emitted") counts.emitted) (codes "\n") (drop c.args.end c.args.lines.now) (drop c.put-end.result c.put-end.new.line)
    (drop c.put_total-end.result c.put_total-end.new.lines) (drop c.put_total-end-2.result c.put_total-end-2.new.lines) (drop c.put_total-end-3.result c.put_total-end-3.new.lines)
    (drop c.put_total-end-4.result c.put_total-end-4.new.lines) (drop c.put_total-end-5.result c.put_total-end-5.new.lines) (drop c.put_number-end.result c.put_number-end.new.line) (drop c.put.result c.put.new.line)
    c.put.ensures.piece (c.put_number-end.ensures.piece ∙ ap (λ n. decimal n ++ drop c.put_total-end-5.result c.put_total-end-5.new.lines) c.from.ensures)
    (c.put_total-end-5.ensures.piece ∙ ap (λ sent. words_text (codes ": sent") sent ++ drop c.put_total-end-4.result c.put_total-end-4.new.lines) c.sent_in.ensures) c.put_total-end-4.ensures.piece c.put_total-end-3.ensures.piece c.put_total-end-2.ensures.piece
    c.put_total-end.ensures.piece c.put-end.ensures.piece
