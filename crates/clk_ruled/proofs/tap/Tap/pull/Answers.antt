use Rattle.std.proofs.Common.{rules, ◌∙◌}
use Rattle.clk_ruled.proofs.Steps.{pulls, learns}
use Rattle.clk_ruled.proofs.TapSteps.{keeps-after, room-after, taken-within, taken-rises, taken-known, taken-fewer, taken-all}
use Rattle.clk_ruled.proofs.Settlement.{seats-within, seats-all}
use Rattle.clk_ruled.proofs.tap.Tap.pull.Goals as goal

pub pop_as-pulled-requires-clause-rule : goal.pop_as-pulled-requires-clause-rule
pop_as-pulled-requires-clause-rule g c = search (rules, pulls, learns)

pub add-requires : goal.add-requires
add-requires g c = record { room = λ keeps. room-after _ _ _ _ _ c.self.invariant.0 c.pop_as-pulled.ensures.rule (c.self.invariant.2 keeps) (c.self.invariant.3 keeps) }

pub invariant_of-self : goal.invariant_of-self
invariant_of-self g c =
    let rule = c.pop_as-pulled.ensures.rule in (
      keeps-after _ _ _ c.self.invariant.0 rule,
      c.pop_as-pulled.ensures.queue.2 ∙ c.self.invariant.1,
      search rules,
      search rules,
    )

pub returns-clause-rises : goal.returns-clause-rises
returns-clause-rises g c = taken-rises _ (keeps-after _ _ _ c.self.invariant.0 c.pop_as-pulled.ensures.rule)

pub returns-clause-known : goal.returns-clause-known
returns-clause-known g c = taken-known _ (keeps-after _ _ _ c.self.invariant.0 c.pop_as-pulled.ensures.rule)

pub returns-clause-room : goal.returns-clause-room
returns-clause-room g c = taken-within _ (keeps-after _ _ _ c.self.invariant.0 c.pop_as-pulled.ensures.rule)

pub returns-clause-within : goal.returns-clause-within
returns-clause-within g c = taken-fewer _ (keeps-after _ _ _ c.self.invariant.0 c.pop_as-pulled.ensures.rule)

pub returns-clause-none : goal.returns-clause-none
returns-clause-none g c none = search (rules, taken-all)

pub returns-clause-seats_within : goal.returns-clause-seats_within
returns-clause-seats_within g c = seats-within _ _ _ (keeps-after _ _ _ c.self.invariant.0 c.pop_as-pulled.ensures.rule)

pub returns-clause-seats_none : goal.returns-clause-seats_none
returns-clause-seats_none g c none = search (rules, seats-all)
