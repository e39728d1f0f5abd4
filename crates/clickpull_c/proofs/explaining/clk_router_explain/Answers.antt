use Rattle.std.proofs.Common.{refl, sym}
use Rattle.clickpull_c.specs.Explains.{whole, front}
use Rattle.clickpull_c.proofs.explaining.clk_router_explain.Goals as goal

pub returns-then-needed-room-clause-answer : goal.returns-then-needed-room-clause-answer
returns-then-needed-room-clause-answer c =
    front c.in-Some.fault c.explain.result (sym c.in-Some.ensures) c.explain.ensures c.fill.ensures.filled c.fill.ensures.needed c.if-needed-room.true refl

pub returns-else-needed-room-clause-answer : goal.returns-else-needed-room-clause-answer
returns-else-needed-room-clause-answer c =
    whole c.in-Some.fault c.explain.result (sym c.in-Some.ensures) c.explain.ensures c.fill.ensures.filled c.fill.ensures.needed c.if-needed-room.false refl
