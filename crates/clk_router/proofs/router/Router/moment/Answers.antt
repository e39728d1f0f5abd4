use Rattle.std.proofs.Common.{◌≡◌, ◌<◌, length, sym, subst, ◌∙◌}
use Rattle.clk_sched.specs.Session.{counted_moment, progress_of}
use Rattle.clk_router.specs.Course.{Course, moment_at}
use Rattle.clk_router.proofs.AskLemmas.{moment-is, device-read}
use Rattle.clk_router.proofs.router.Router.moment.Goals as goal

pub returns-clause-moment : goal.returns-clause-moment
returns-clause-moment c =
    let past = c.self.inside.past in
    let within = subst (λ (k : Course). c.args.device < length k.setup.trees) (sym c.self.view_is) c.requires in
    let here = device-read past.setup past.events c.self.inside.parts c.self.invariant c.args.device within c.from.result c.index.result.now c.from.ensures c.index.ensures in
    c.now.ensures.moment ∙ subst (λ (k : Course). counted_moment (progress_of c.index.result.now.session) ≡ moment_at k c.args.device) c.self.view_is (moment-is past.setup past.events c.self.inside.parts c.self.invariant c.args.device c.index.result.now here)
