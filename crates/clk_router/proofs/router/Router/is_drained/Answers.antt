use Rattle.std.proofs.Common.{◌≡◌, ◌+◌, ◌<◌, ◌==◌, ℕ, Bool, true, false, refl, subst, arith}
use Rattle.std.proofs.lemmas.Bool.Decides.{nat_tests}
use Rattle.clk_router.specs.Course.{accepted_at, evicted_at, emitted_at}
use Rattle.clk_router.proofs.router.Router.is_drained.Goals as goal

pub loop-device-preserved : goal.loop-device-preserved
loop-device-preserved c = λ d below. by_place d below (d == c.loop-device.device) refl
  where
    by_place : (d : ℕ) → d < c.loop-device.device + 1 → (b : Bool) → (d == c.loop-device.device) ≡ b → accepted_at c.args.self.now d ≡ evicted_at c.args.self.now d + emitted_at c.args.self.now d
    by_place d below true e =
        let same : c.loop-device.device ≡ d = grind (arith, nat_tests, e) in
        subst (λ n. accepted_at c.args.self.now n ≡ evicted_at c.args.self.now n + emitted_at c.args.self.now n) same (omega (arith, c.left.ensures, c.if-left-gt0.false))
    by_place d below false e = c.loop-device.invariant d (grind (arith, nat_tests, below, e))

pub returns-clause-settled : goal.returns-clause-settled
returns-clause-settled c = λ _. c.has_account.ensures.settled (record { none_left = λ d within. c.loop-device.invariant d (omega (arith, within, c.loop-device-test.false, c.devices-device-end.ensures.count)) })

pub returns-clause-all_out : goal.returns-clause-all_out
returns-clause-all_out c = λ _. c.has_account.ensures.all_out (record { none_left = λ d within. c.loop-device.invariant d (omega (arith, within, c.loop-device-test.false, c.devices-device-end.ensures.count)) })
