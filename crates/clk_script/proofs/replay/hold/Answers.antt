use Rattle.std.proofs.Common.{rules}
use Rattle.std.proofs.lemmas.List.{take_all}
use Rattle.std.proofs.lemmas.Result.{err_from_is_err_and}
use Rattle.clk_script.proofs.Carrying.HeldLemmas.{held-more, held-none-left, held-lost}
use Rattle.clk_script.proofs.replay.hold.Goals as goal

pub returns-then-visits-capacity : goal.returns-then-visits-capacity
returns-then-visits-capacity g c = search (rules, held-more, take_all)

pub returns-in_err-visit_rows : goal.returns-in_err-visit_rows
returns-in_err-visit_rows g c = search (rules, err_from_is_err_and, held-lost)

pub returns : goal.returns
returns g c = held-none-left c.args.column _ _ _ _ _ _ _ (rw c.deref.ensures.value at c.in_ok-visit_rows.ensures) c.visit_rows-2.ensures c.clear.ensures.items
