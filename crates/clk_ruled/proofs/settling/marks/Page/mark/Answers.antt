use Rattle.std.proofs.Common.{◌==◌, ◌&&◌, ◌||◌, Bool, Vec, List, [], false, get_or, ap, ◌∙◌, arith}
use Rattle.std.proofs.lemmas.Result.{on_ok_weaker}
use Rattle.std.specs.Global.{Global}
use Rattle.clk_ruled.specs.inside.Marks.{is_on}
use Rattle.clk_ruled.proofs.MarkLemmas.{more-there}
use Rattle.clk_ruled.proofs.settling.marks.Page.mark.Goals as goal

pub returns-clause-marked : goal.returns-clause-marked
returns-clause-marked c = on_ok_weaker c.mark_number.result
    (λ one p n.
    more-there (λ (marks : Vec Bool Global). marks.items) c.reach.new.self.senders.items c.from.result p c.index_mut.result.now c.mark_number.new.marks [] (λ (marks : List Bool). get_or marks n false) (n == c.args.number)
    (omega (arith, c.in_ok-reach.ensures.reached)) c.index_mut.ensures.value (one n)
    ∙ ap (λ place. ((p == place) && (n == c.args.number)) || is_on c.reach.new.self p n) c.from.ensures
    ∙ ap (λ marks. ((p == c.args.place) && (n == c.args.number)) || get_or marks n false) (c.in_ok-reach.ensures.same p))
    c.mark_number.ensures.marked
