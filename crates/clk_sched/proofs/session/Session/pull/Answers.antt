use Rattle.std.proofs.Common.{◌≡◌, [], ◌++◌, drop, length, refl, sym, ap, ◌∙◌, subst, arith}
use Rattle.std.specs.List.{cons_option}
use Rattle.std.proofs.lemmas.List.{length-append}
use Rattle.clk_sched.specs.Results.{emitted}
use Rattle.clk_sched.specs.Answers.{Answers, tree_queue}
use Rattle.clk_sched.specs.inside.Places.{edges_of}
use Rattle.clk_sched.specs.Session.{IsPulledOnce, latest_pull, newly, progress_of}
use Rattle.clk_sched.proofs.Sessions.SessionPull.{session-pulled, emitted-once, is-latest, one-at-most, one_further, progress, HasGoneOn}
use Rattle.clk_sched.proofs.Trees.QueuesAsked.{answers-tree}
use Rattle.clk_sched.proofs.session.Session.pull.Goals as goal

pub invariant_of-self-2 : goal.invariant_of-self-2
invariant_of-self-2 g c =
    let a = c.self.inside.nodes in
    let n = c.pull_device-got.new.nodes in
    let tree = c.self.inside.tree in
    let got = c.pull_device-got.result in
    let b = one_further n in
    let ready = c.in_ok-begin.ensures.ready in
    let gone : HasGoneOn tree a b c.args.moment _ got =
    session-pulled tree a _ n c.args.moment _ got c.self.invariant.0
    (record { inputs = refl; states = refl; log = ap (λ l. l.items) ready; pull = refl; at_moment = c.max-self-inside.ensures }) c.pull_device-got.ensures.keeps c.pull_device-got.ensures.pulls
    in
    let more = emitted-once (progress tree a) (progress tree b) c.args.moment got gone.once in
    let added = ap length more ∙ length-append (emitted a.log.items) (cons_option got []) in
    let count = c.add.ensures.count in
    let one = one-at-most got in
    let kind = c.pull_device-got.ensures.keeps.kind ∙ ap (λ l. l.kind) ready in (
      gone.still,
      omega arith,
      c.self.invariant.2,
      (λ keeps. let stays = sym c.add.ensures.keeps ∙ keeps in
          c.add.ensures.packets stays ∙ ap (λ l. l ++ cons_option got []) (c.reserve.ensures.packets ∙ c.self.invariant.3 (sym c.reserve.ensures.keeps ∙ stays)) ∙ sym more),
      omega (arith, added, count),
      omega (arith, count, one),
      subst (λ k. drop k.start n.log.items ≡ latest_pull n.log.items) (sym kind) (is-latest (progress tree a) (progress tree b) c.args.moment got gone.once),
      (λ latest. let room = c.self.invariant.7 (sym (ap (λ k. k.latest) kind) ∙ latest) in let more = ap (λ k. k.room) kind in let edges = ap (λ t. edges_of t 0) c.pull_device-got.ensures.keeps.inputs in
          omega (arith, room, more, edges)),
      (λ unkept. let stays = sym c.add.ensures.keeps ∙ unkept in
          c.add.ensures.unkept stays ∙ c.reserve.ensures.packets ∙ c.self.invariant.8 (sym c.reserve.ensures.keeps ∙ stays)),
    )

pub returns-clause-pulled : goal.returns-clause-pulled
returns-clause-pulled g c =
    let a = c.self.inside.nodes in
    let n = c.pull_device-got.new.nodes in
    let tree = c.self.inside.tree in
    let b = one_further n in
    let gone : HasGoneOn tree a b c.args.moment _ c.pull_device-got.result =
    session-pulled tree a _ n c.args.moment _ c.pull_device-got.result c.self.invariant.0
    (record { inputs = refl; states = refl; log = ap (λ l. l.items) c.in_ok-begin.ensures.ready; pull = refl; at_moment = c.max-self-inside.ensures }) c.pull_device-got.ensures.keeps c.pull_device-got.ensures.pulls
    in
    subst (λ s. IsPulledOnce (progress_of s) (progress tree b) c.args.moment c.pull_device-got.result) c.self.view_is gone.once

pub returns-clause-answers : goal.returns-clause-answers
returns-clause-answers g c =
    let a = c.self.inside.nodes in
    let n = c.pull_device-got.new.nodes in
    let tree = c.self.inside.tree in
    let b = one_further n in
    let gone =
    session-pulled tree a _ n c.args.moment _ c.pull_device-got.result c.self.invariant.0
    (record { inputs = refl; states = refl; log = ap (λ l. l.items) c.in_ok-begin.ensures.ready; pull = refl; at_moment = c.max-self-inside.ensures }) c.pull_device-got.ensures.keeps c.pull_device-got.ensures.pulls
    in
    subst (λ s. Answers g.Q.Ask.gives (tree_queue s.tree) c.args.q.now (newly (progress_of s) (progress tree b)) c.pull_device-got.new.q) c.self.view_is
    (subst (λ l. Answers g.Q.Ask.gives (tree_queue tree) c.args.q.now l c.pull_device-got.new.q) (sym gone.new)
    (answers-tree g.Q.Ask.gives tree a.inputs.items _ c.args.q.now c.pull_device-got.new.q c.self.invariant.0.stands gone.within c.pull_device-got.ensures.answers))
