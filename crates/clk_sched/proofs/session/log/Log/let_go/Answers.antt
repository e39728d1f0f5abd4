use Rattle.std.proofs.Common.{◌≡◌, [], drop, length, sym, ◌∙◌, arith}
use Rattle.std.proofs.lemmas.List.{drop_all}
use Rattle.clk_sched.proofs.session.log.Log.let_go.Goals as goal

pub invariant_of-self : goal.invariant_of-self
invariant_of-self c =
    let all = c.self.inside.all.items in
    let is = c.let_go.ensures in
    let none : [] ≡ drop (length all) all = sym (drop_all (length all) all (omega arith)) in
    rw is (
      omega arith,
      (λ keeps. let before = c.self.invariant.1 keeps in let room = before.1 in let len = c.clear.ensures.len in let capacity = c.clear.ensures.capacity in
          (c.clear.ensures.items ∙ none, omega (arith, room, len, capacity))),
      (λ packs. let before = c.self.invariant.2 packs in (c.clear-2.ensures.visits ∙ none, c.clear-2.ensures.room _ before.1)),
      c.self.invariant.3,
      c.self.invariant.4,
      c.self.invariant.5,
      (λ keeps. c.clear.ensures.items),
      c.self.invariant.7,
    )
