use Rattle.std.proofs.Common.{refl}
use Rattle.clk_router.proofs.Callers.Accounts.{course-few}
use Rattle.clk_script.proofs.Carrying.ScriptRouterLemmas.{StaysElsewhere-closed, LeadsOnByDrain-closed}
use Rattle.clk_script.proofs.script_router.ScriptRouter.drain.Goals as goal

pub returns-clause-leads : goal.returns-clause-leads
returns-clause-leads c =
    λ setup events at.
    LeadsOnByDrain-closed c.args.self.now (record c.args.self.now { router = c.close.new.self; accounts = c.count_drained.new.accounts }) c.args.device c.args.moment c.in_ok-departures.departures.items c.in_ok-departures.ensures.closed setup events at
    c.has_happened.ensures (course-few c.close.new.self.setup c.close.new.self.events c.has_account.ensures.accounted c.has_account.ensures.few) (rw c.deref.ensures.value at c.count_drained.ensures.counted) refl

pub returns-clause-elsewhere : goal.returns-clause-elsewhere
returns-clause-elsewhere c =
    StaysElsewhere-closed c.args.self.now (record c.args.self.now { router = c.close.new.self }) c.args.device c.args.moment c.in_ok-departures.departures.items c.in_ok-departures.ensures.closed
