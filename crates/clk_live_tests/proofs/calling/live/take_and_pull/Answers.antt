use Rattle.std.proofs.Common.{◌≡◌, List, Option, IfSome, sym, ap, ◌∙◌, subst}
use Rattle.clk_inlet.specs.declared.item.Item.{Item}
use Rattle.clk_router.specs.Course.{Course}
use Rattle.clk_router.specs.Events.{Setup}
use Rattle.clk_live.specs.State.{LiveState, Seen, seen, IsTokenOf}
use Rattle.clk_live.specs.declared.taking.Taken.{Taken}
use Rattle.clk_live_tests.proofs.calling.live.take_and_pull.Goals as goal
use Rattle.clk_live_tests.proofs.calling.live.take_and_pull.Goals.{then-can_pull, else-can_pull}

-- the token of a packet still came with it where no more was taken
stays : (new last : Seen) (got : Option Taken) → last.course.setup ≡ new.course.setup → last.items ≡ new.items → IfSome got (λ (t : Taken). IsTokenOf new.course.setup new.items t.packet t.token)
    → IfSome got (λ (t : Taken). IsTokenOf last.course.setup last.items t.packet t.token)
stays new last got setup items h =
    subst (λ (s : Setup). IfSome got (λ (t : Taken). IsTokenOf s last.items t.packet t.token)) (sym setup)
    (subst (λ (l : List (List Item)). IfSome got (λ (t : Taken). IsTokenOf new.course.setup l t.packet t.token)) (sym items) h)

pub returns-clause-taken : goal.returns-clause-taken
returns-clause-taken c =
    let stays_so = stays (seen c.take-taken.new.self) (seen c.if-can_pull.live) c.take-taken.result in
    elim c.if-can_pull.branch [
      | then-can_pull w ↦
          let p = w.pull-emitted.ensures.pulled in
          stays_so (ap (λ (l : LiveState). l.course.setup) w.live-is ∙ ap (λ (k : Course). k.setup) p.pulled.goes_on) (ap (λ (l : LiveState). (seen l).items) w.live-is ∙ p.items) c.take-taken.ensures.token
      | else-can_pull w ↦ stays_so (ap (λ (l : LiveState). l.course.setup) w.live-is) (ap (λ (l : LiveState). (seen l).items) w.live-is) c.take-taken.ensures.token
    ]
