use Rattle.std.proofs.Common.{◌≡◌, ◌+◌, ◌<◌, length, sym, subst, rules}
use Rattle.clk_router.specs.Course.{Course, accepted_at, evicted_at, emitted_at}
use Rattle.clk_router.proofs.RouterLemmas.{counts-left, left-is}
use Rattle.clk_router.proofs.router.Router.left.Goals as goal

pub left-requires : goal.left-requires
left-requires c = search (rules, counts-left)

pub returns : goal.returns
returns c =
    let past = c.self.inside.past in
    let within = subst (λ (k : Course). c.args.device < length k.setup.trees) (sym c.self.view_is) c.requires in
    subst (λ (k : Course). accepted_at k c.args.device ≡ evicted_at k c.args.device + emitted_at k c.args.device + c.left.result) c.self.view_is
    (left-is past.setup past.events c.self.inside.parts c.self.invariant c.args.device within (λ tree. (c.runs_go_on.ensures tree).start) c.runs_conserve_packets.ensures.counts c.left.result c.left.ensures)
