use Rattle.std.proofs.Common.{◌≡◌, ℕ, refl}
use Rattle.clickpull_c.specs.live.Tells.{TellsEnded, ended, not_ended}
use Rattle.clickpull_c.proofs.LiveSteps.{told}
use Rattle.clickpull_c.proofs.live.telling.ended.Goals as goal

pub returns-then-is_ended : goal.returns-then-is_ended
returns-then-is_ended c = told c.args.router.now c.in-Some.live 0 (λ s. TellsEnded s 0) (λ s. ⊥) (◌≡◌ {A = ℕ} 0 0) c.in-Some.is (ended refl (c.if-is_ended.ensures.ended refl) (c.if-is_ended.ensures.whole refl))

pub returns-else-is_ended : goal.returns-else-is_ended
returns-else-is_ended c = told c.args.router.now c.in-Some.live 1 (λ s. TellsEnded s 1) (λ s. ⊥) (◌≡◌ {A = ℕ} 1 1) c.in-Some.is (not_ended refl (c.if-is_ended.ensures.not_ended refl))
