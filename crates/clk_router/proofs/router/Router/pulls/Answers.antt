use Rattle.std.proofs.Common.{◌≡◌, ◌<◌, length, sym, subst, ◌∙◌}
use Rattle.clk_sched.specs.Session.{pulls_made, progress_of}
use Rattle.clk_router.specs.Course.{Course, pulls_at}
use Rattle.clk_router.proofs.AskLemmas.{pulls-is, device-read}
use Rattle.clk_router.proofs.router.Router.pulls.Goals as goal

pub returns : goal.returns
returns c =
    let past = c.self.inside.past in
    let within = subst (λ (k : Course). c.args.device < length k.setup.trees) (sym c.self.view_is) c.requires in
    let here = device-read past.setup past.events c.self.inside.parts c.self.invariant c.args.device within c.from.result c.index.result.now c.from.ensures c.index.ensures in
    c.pulls.ensures ∙ subst (λ (k : Course). pulls_made (progress_of c.index.result.now.session) ≡ pulls_at k c.args.device) c.self.view_is (pulls-is past.setup past.events c.self.inside.parts c.self.invariant c.args.device c.index.result.now here)
