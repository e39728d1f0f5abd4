use Rattle.std.proofs.Common.{rules}
use Rattle.std.proofs.lemmas.List.{nil_from_length}
use Rattle.clk_drain.proofs.Threads.HandSteps.{made-all}
use Rattle.clk_drain.proofs.running.open_lines.open_lines_for.Goals as goal

pub returns-clause-open_lines : goal.returns-clause-open_lines
returns-clause-open_lines c = search (rules, made-all, nil_from_length)
