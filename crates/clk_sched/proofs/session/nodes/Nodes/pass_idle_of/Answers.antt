use Rattle.std.proofs.Common.{ℕ, List, min, ◌≡◌, ◌≤◌, None, length, take, sym, ap, ◌∙◌, subst, arith, rules}
use Rattle.std.specs.List.{range_with_len}
use Rattle.std.proofs.lemmas.List.{length-map}
use Rattle.clk_sched.specs.inside.Ranks.{Ranked, inputs_in}
use Rattle.clk_sched.specs.inside.Turning.{HasAskedAll}
use Rattle.clk_sched.proofs.Classes.RankLemmas.{read-at, in_order-front}
use Rattle.clk_sched.proofs.Nodes.Asked.{entry}
use Rattle.clk_sched.proofs.Nodes.Idle.{first-below, input-there, row-follows, order-room, idle-recorded}
use Rattle.clk_sched.proofs.session.nodes.Nodes.pass_idle_of.Goals as goal

abbrev blank : Ranked
blank = record { pass = 0; input = 0 }

-- how many ranks were looked at, and how many of these follow one another
few-taken : (order : List Ranked) (idle behind looked n : ℕ) {most : ℕ} → idle ≤ most → most ≡ min (length order) behind → looked ≡ idle → n ≤ length (take looked order) → (looked ≤ length order) × (n ≤ looked) × (n ≤ behind)
few-taken order idle behind looked n l is same within = search rules

pub overflow_sub-left : goal.overflow_sub-left
overflow_sub-left g c = search (rules, entry, first-below)

pub overflow_cast-min : goal.overflow_cast-min
overflow_cast-min g c = search (rules, entry)

pub idle_from-idle-requires-clause-within : goal.idle_from-idle-requires-clause-within
idle_from-idle-requires-clause-within g c i l = search (rules, entry, input-there)

pub following-count-requires : goal.following-count-requires
following-count-requires g c = in_order-front _ c.args.order.now c.requires.order

pub record_idle-requires-clause-room : goal.record_idle-requires-clause-room
record_idle-requires-clause-room g c =
    let room = order-room c.args.self.now c.args.node (inputs_in c.args.order.now) c.requires.can_pull c.requires.within in
    let size = length-map c.args.order.now (λ (r : Ranked). r.input) in
    let few = few-taken c.args.order.now _ _ c.from-7.result c.following-count.result c.idle_from-idle.ensures.within c.min.ensures c.from-7.ensures c.following-count.ensures.within in
    omega (arith, room, size, few)

pub record_idle-requires-clause-few : goal.record_idle-requires-clause-few
record_idle-requires-clause-few g c =
    let a = c.args.self.now in
    let place = entry a.inputs.items c.args.node c.index.result.now c.requires.can_pull.there c.index.ensures in
    let most = (c.requires.can_pull.wired c.args.node c.index.result.now place).few in
    let some = c.if-order-from.false in
    let many = c.from.ensures in
    let below = first-below a.inputs.items c.args.node c.index.result.now c.args.order.now blank place (omega (arith, some, many)) c.requires.within in
    let len = c.len.ensures in
    let first = c.from-6.ensures in
    let few = few-taken c.args.order.now _ _ c.from-7.result c.following-count.result c.idle_from-idle.ensures.within c.min.ensures c.from-7.ensures c.following-count.ensures.within in
    omega (arith, most, below, len, first, few)

pub returns-clause-asked : goal.returns-clause-asked
returns-clause-asked g c =
    let a = c.args.self.now in
    let n = c.following-count.result in
    let first = c.input-first.result in
    let some = c.if-order-from.false in
    let many = c.from.ensures in
    let first_is = c.input-first.ensures ∙ ap (λ (r : Ranked). r.input) (read-at c.args.order.now 0 c.index-order-0.result blank (omega (arith, some, many)) c.index-order-0.is) in
    let same = c.from-7.ensures in
    let few = few-taken c.args.order.now _ _ c.from-7.result n c.idle_from-idle.ensures.within c.min.ensures same c.following-count.ensures.within in
    let follow = row-follows c.args.order.now blank n c.from-7.result few.1 few.0 c.following-count.ensures.follow in
    subst (λ front. HasAskedAll g.Q.Ask.gives a c.record_idle.new.self c.args.q.now c.args.q.now c.args.node front None) (sym (follow ∙ ap (λ i. range_with_len i n) (sym first_is)))
    (subst (λ now. HasAskedAll g.Q.Ask.gives a now c.args.q.now c.args.q.now c.args.node (range_with_len first n) None) (sym c.record_idle.ensures)
    (idle-recorded g.Q.Ask.gives a c.args.q.now c.args.node first n c.requires.can_pull.fit (λ i l. c.idle_from-idle.ensures.idle i (omega (arith, l, same, few)))))
