use Rattle.std.proofs.Common.{◌<◌, length, sym, subst, rules}
use Rattle.clk_router.specs.Course.{Course}
use Rattle.clk_router.specs.Due.{EmitsNoneBefore}
use Rattle.clk_router.proofs.DueLemmas.{router-due, none-before}
use Rattle.clk_router.proofs.RouterLemmas.{course}
use Rattle.clk_router.proofs.router.Router.due.Goals as goal

pub returns-clause-due : goal.returns-clause-due
returns-clause-due c = search (rules, router-due)

pub returns-clause-before : goal.returns-clause-before
returns-clause-before c =
    let past = c.self.inside.past in
    let parts = c.self.inside.parts in
    let stand = c.self.invariant in
    let within = subst (λ (k : Course). c.args.device < length k.setup.trees) (sym c.self.view_is) c.requires in
    subst (λ (k : Course). EmitsNoneBefore k c.args.device c.due.result) c.self.view_is
    (none-before (course past.setup past.events parts) c.args.device c.due.result c.pulls_emit_once_due.ensures stand.closable stand.at.can_happen
    (router-due past.setup past.events parts c.args.device c.due.result stand within c.due.ensures))
