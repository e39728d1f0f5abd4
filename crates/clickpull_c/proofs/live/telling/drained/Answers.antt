use Rattle.std.proofs.Common.{◌≡◌, ℕ, refl}
use Rattle.clickpull_c.specs.live.Tells.{TellsDrained, drained, not_drained}
use Rattle.clickpull_c.proofs.LiveSteps.{told}
use Rattle.clickpull_c.proofs.live.telling.drained.Goals as goal

pub returns-then-is_drained : goal.returns-then-is_drained
returns-then-is_drained c = told c.args.router.now c.in-Some.live 0 (λ s. TellsDrained s 0) (λ s. ⊥) (◌≡◌ {A = ℕ} 0 0) c.in-Some.is (drained refl (c.if-is_drained.ensures.outcome refl))

pub returns-else-is_drained : goal.returns-else-is_drained
returns-else-is_drained c = told c.args.router.now c.in-Some.live 1 (λ s. TellsDrained s 1) (λ s. ⊥) (◌≡◌ {A = ℕ} 1 1) c.in-Some.is (not_drained refl (c.if-is_drained.ensures.no refl))
