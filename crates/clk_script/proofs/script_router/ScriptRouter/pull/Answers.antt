use Rattle.std.proofs.Common.{refl, sym, subst}
use Rattle.clk_router.proofs.Callers.Accounts.{course-few}
use Rattle.clk_script.specs.declared.script_router.ScriptRouter.{ScriptRouter}
use Rattle.clk_script.specs.inside.ScriptRouter.{LeadsOnByPull}
use Rattle.clk_script.proofs.Carrying.ScriptRouterLemmas.{LeadsOnByPull-pulled}
use Rattle.clk_script.proofs.script_router.ScriptRouter.pull.Goals as goal

pub returns-clause-leads : goal.returns-clause-leads
returns-clause-leads c =
    let mid : ScriptRouter = record c.args.self.now { router = c.pull.new.self; accounts = c.count_pulled.new.accounts } in
    let others = c.in_ok-keep.ensures.others in
    λ setup events at.
    subst (λ (r : ScriptRouter). LeadsOnByPull setup r c.args.device c.args.moment c.in_ok-got.got events) (sym others)
    (LeadsOnByPull-pulled setup events c.args.self.now (record mid { given = c.keep.new.self.given }) c.args.device c.args.moment c.in_ok-got.got at c.in_ok-got.ensures.pulled c.has_happened.ensures
    (course-few c.pull.new.self.setup c.pull.new.self.events c.has_account.ensures.accounted c.has_account.ensures.few) c.count_pulled.ensures refl)
