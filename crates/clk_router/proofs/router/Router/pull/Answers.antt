use Rattle.std.proofs.Common.{sym, subst, rules}
use Rattle.clk_router.specs.Course.{Course, CanPull}
use Rattle.clk_router.specs.inside.Past.{pull_shown}
use Rattle.clk_router.proofs.RouterLemmas.{pulls-when, pull-read, Stand-told}
use Rattle.clk_router.proofs.router.Router.pull.Goals as goal

pub pull-requires-clause-can : goal.pull-requires-clause-can
pull-requires-clause-can c =
    let past = c.self.inside.past in
    let can = subst (λ (k : Course). CanPull k c.args.device c.args.moment) (sym c.self.view_is) c.requires.can in
    pulls-when past.setup past.events c.self.inside.parts c.self.invariant c.args.device can.there can.pulls

pub invariant_of-self-2 : goal.invariant_of-self-2
invariant_of-self-2 c =
    let past = c.self.inside.past in
    let old = c.self.inside.parts in
    let new = c.pull.new.self in
    let read = pull-read past.setup past.events old new c.args.device c.args.moment c.in_ok-got.got c.from.result c.index.result.now (c.in_ok-got.ensures.leads past.setup past.events c.self.invariant.at) c.from.ensures c.index.ensures in
    Stand-told past.setup past.events (pull_shown past.setup past.events c.args.device c.args.moment c.index.result.now.session) old new c.pulled.new.self c.self.invariant c.pulled.ensures read.1

pub returns-clause-pulled : goal.returns-clause-pulled
returns-clause-pulled c = search (rules, pull-read)
