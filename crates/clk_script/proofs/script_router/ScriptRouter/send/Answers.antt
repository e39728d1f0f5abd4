use Rattle.std.proofs.Common.{◌++◌, ◌∷◌, [], sym, subst}
use Rattle.clk_router.specs.Events.{offered}
use Rattle.clk_router.proofs.Callers.Accounts.{course-few}
use Rattle.clk_script.specs.declared.script_router.ScriptRouter.{ScriptRouter}
use Rattle.clk_script.specs.inside.ScriptRouter.{IsAt}
use Rattle.clk_script.proofs.Carrying.ScriptRouterLemmas.{can-offer, IsAt-offered}
use Rattle.clk_script.proofs.script_router.ScriptRouter.send.Goals as goal

pub offer-outcome-requires-clause-can : goal.offer-outcome-requires-clause-can
offer-outcome-requires-clause-can c = can-offer c.args.self.now c.requires.ready c.args.place c.requires.is_there

pub returns-clause-leads : goal.returns-clause-leads
returns-clause-leads c =
    let old = c.args.self.now in
    let p = c.offer-outcome.result.0 in
    let outcome = c.offer-outcome.result.1 in
    let after : ScriptRouter = record old { router = c.offer-outcome.new.self; accounts = c.count_offered.new.accounts; evicted = c.keep_evicted.new.self.evicted } in
    λ setup events at.
    subst (λ (r : ScriptRouter). IsAt setup (events ++ offered p outcome ∷ []) r) (sym c.in_ok-keep_evicted.ensures.kept)
    (IsAt-offered setup events old after p outcome at c.offer-outcome.ensures.goes_on c.has_happened.ensures
    (course-few c.offer-outcome.new.self.setup c.offer-outcome.new.self.events c.has_account.ensures.accounted c.has_account.ensures.few) c.count_offered.ensures c.in_ok-keep_evicted.ensures.evicted)
