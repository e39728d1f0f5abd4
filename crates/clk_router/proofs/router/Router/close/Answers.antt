use Rattle.std.proofs.Common.{sym, subst}
use Rattle.clk_router.specs.Course.{Course, CanClose, IsClosed}
use Rattle.clk_router.specs.Drains.{StopsShort}
use Rattle.clk_router.specs.inside.Past.{pulls_shown}
use Rattle.clk_router.proofs.RouterLemmas.{closes-when, pulls-read, closes-read, stops-read, course-told, Stand-told, IsClosed-shown, StopsShort-shown, ok-weaker, err-weaker}
use Rattle.clk_router.proofs.router.Router.close.Goals as goal

pub close-departures-requires-clause-can : goal.close-departures-requires-clause-can
close-departures-requires-clause-can c =
    let past = c.self.inside.past in
    let can = subst (λ (k : Course). CanClose k c.args.device c.args.moment) (sym c.self.view_is) c.requires.can in
    closes-when past.setup past.events c.self.inside.parts c.self.invariant c.args.device can.there (λ tree. (c.runs_go_on.ensures tree).start) c.runs_conserve_packets.ensures.counts c.args.moment can

pub invariant_of-self : goal.invariant_of-self
invariant_of-self c =
    let past = c.self.inside.past in
    let old = c.self.inside.parts in
    let new = c.close-departures.new.self in
    let read = pulls-read past.setup past.events old new c.args.device c.args.moment c.from.result c.index.result.now (c.close-departures.ensures.leads past.setup past.events c.self.invariant.at) c.from.ensures c.index.ensures in
    Stand-told past.setup past.events (pulls_shown past.setup past.events c.args.device c.args.moment c.index.result.now.session) old new c.closed.new.self c.self.invariant c.closed.ensures read

pub returns-clause-closed : goal.returns-clause-closed
returns-clause-closed c =
    let past = c.self.inside.past in
    let old = c.self.inside.parts in
    let new = c.close-departures.new.self in
    let session = c.index.result.now.session in
    let told = course-told past.setup past.events (pulls_shown past.setup past.events c.args.device c.args.moment session) old new c.closed.new.self c.closed.ensures c.close-departures.ensures.keeps in
    let now : Course = record { setup = c.closed.new.self.setup; events = c.closed.new.self.events; keeps = new.keeps } in
    let led = c.close-departures.ensures.leads past.setup past.events c.self.invariant.at in
    ok-weaker c.close-departures.result
    (λ departures closes. subst (λ (k : Course). IsClosed k now c.args.device c.args.moment departures.items) c.self.view_is
    (IsClosed-shown (record { setup = past.setup; events = past.events; keeps = old.keeps }) now c.args.device c.args.moment session departures.items
    (closes-read past.setup past.events old new c.args.device c.args.moment c.from.result c.index.result.now departures.items led (closes past.setup past.events c.self.invariant.at) c.from.ensures c.index.ensures) told))
    c.close-departures.ensures.closed

pub returns-clause-stopped : goal.returns-clause-stopped
returns-clause-stopped c =
    let past = c.self.inside.past in
    let old = c.self.inside.parts in
    let new = c.close-departures.new.self in
    let session = c.index.result.now.session in
    let told = course-told past.setup past.events (pulls_shown past.setup past.events c.args.device c.args.moment session) old new c.closed.new.self c.closed.ensures c.close-departures.ensures.keeps in
    let now : Course = record { setup = c.closed.new.self.setup; events = c.closed.new.self.events; keeps = new.keeps } in
    let led = c.close-departures.ensures.leads past.setup past.events c.self.invariant.at in
    err-weaker c.close-departures.result
    (λ stops. subst (λ (k : Course). StopsShort k now c.args.device c.args.moment) c.self.view_is
    (StopsShort-shown (record { setup = past.setup; events = past.events; keeps = old.keeps }) now c.args.device c.args.moment session
    (stops-read past.setup past.events old new c.args.device c.args.moment c.from.result c.index.result.now led (stops past.setup past.events c.self.invariant.at) c.from.ensures c.index.ensures) told))
    c.close-departures.ensures.short
