-- Schedulers and the arguments that a text gives them.
use Rattle.std.proofs.Common.{◌≡◌, ℕ, ◌+◌, ◌<◌, ◌≤◌, ◌^◌, zero, suc, List, [], ◌∷◌, length, replicate, Some, IfSome, refl, sym, subst, arith}
use Rattle.std.specs.List.{AllByRecursion}
use Rattle.std.proofs.lemmas.List.{length-replicate}
use Rattle.clk_packet.specs.declared.limits.TheConstants.{DEFAULT_QUANTUM}
use Rattle.clk_packet.specs.declared.scheduler.SchedulerName.{SchedulerName}
use Rattle.clk_packet.specs.declared.scheduler.SchedulerName.TheVariants as named
use Rattle.clk_packet.specs.Scheduler.{Scheduler, prio, round_robin, drr, stride, shaper, name_of, arguments_of, most_argument, scheduler_with, inputs_of, over_inputs, HasArguments}

-- numbers from 1 to a greatest
abbrev pub AreTo : ℕ → List ℕ → Type 0
AreTo most numbers = AllByRecursion (λ n. (1 ≤ n) × (n ≤ most)) numbers

-- A text can give a scheduler its arguments.
pub record HasLimits (s : Scheduler) : Type 0 where
  pub arguments : AreTo (most_argument (name_of s)) (arguments_of s)
  pub again : scheduler_with (name_of s) (arguments_of s) ≡ Some s

-- A text gave a scheduler these arguments.
pub record IsGiven (name : SchedulerName) (numbers : List ℕ) (s : Scheduler) : Type 0 where
  pub few : length (arguments_of s) ≤ length numbers + 1
  pub limits : AreTo (most_argument name) numbers → HasLimits s

pub given : (name : SchedulerName) (numbers : List ℕ) (s : Scheduler) → scheduler_with name numbers ≡ Some s → IsGiven name numbers s
given name numbers s e = by_case name numbers e
  where
    is : (name : SchedulerName) (numbers : List ℕ) (known : Scheduler) → length (arguments_of known) ≤ length numbers + 1 → (AreTo (most_argument name) numbers → HasLimits known) → Some known ≡ Some s → IsGiven name numbers s
    is name numbers known few limits e = let same : known ≡ s = cc in subst (IsGiven name numbers) same (record { few = few; limits = limits })

    by_case : (name : SchedulerName) (numbers : List ℕ) → scheduler_with name numbers ≡ Some s → IsGiven name numbers s
    by_case named.Prio [] e = is named.Prio [] prio (omega arith) (λ all. record { arguments = tt; again = refl }) e
    by_case named.RoundRobin [] e = is named.RoundRobin [] round_robin (omega arith) (λ all. record { arguments = tt; again = refl }) e
    by_case named.Drr [] e = is named.Drr [] (drr (DEFAULT_QUANTUM ∷ [])) (omega arith) (λ all. record { arguments = ((omega arith, omega arith), tt); again = refl }) e
    by_case named.Drr (q ∷ more) e = is named.Drr (q ∷ more) (drr (q ∷ more)) (omega arith) (λ all. record { arguments = all; again = refl }) e
    by_case named.Stride (t ∷ more) e = is named.Stride (t ∷ more) (stride (t ∷ more)) (omega arith) (λ all. record { arguments = all; again = refl }) e
    by_case named.Shaper (rate ∷ []) e = is named.Shaper (rate ∷ []) (shaper rate rate) (omega arith) (λ all. record { arguments = (all.0, (all.0, tt)); again = refl }) e
    by_case named.Shaper (rate ∷ burst ∷ []) e = is named.Shaper (rate ∷ burst ∷ []) (shaper rate burst) (omega arith) (λ all. record { arguments = all; again = refl }) e
    by_case name numbers e = absurd (cc)

-- the greatest argument is a number that a text can have
pub most-small : (name : SchedulerName) → most_argument name < 2 ^ 64
most-small named.Prio = omega arith
most-small name = omega arith

-- the same argument for each input
all-same : (most n count : ℕ) → (1 ≤ n) × (n ≤ most) → AreTo most (replicate count n)
all-same most n zero fits = tt
all-same most n (suc count) fits = (fits, all-same most n count fits)

-- A scheduler has at least one input,
pub inputs-some : (s : Scheduler) → HasLimits s → IfSome (inputs_of s) (λ n. 1 ≤ n)
inputs-some (drr []) has = tt
inputs-some (drr (q ∷ [])) has = tt
inputs-some (drr (q ∷ r ∷ more)) has = omega arith
inputs-some (stride []) has = absurd (let again = has.again in cc)
inputs-some (stride (t ∷ more)) has = omega arith
inputs-some (shaper rate burst) has = omega arith
inputs-some s has = tt

-- and its arguments fit as many inputs as they are for.
pub fits-over : (s : Scheduler) (inputs : ℕ) → HasLimits s → IfSome (inputs_of s) (λ n. n ≡ inputs) → HasArguments (over_inputs s inputs) inputs
fits-over (drr []) inputs has for = absurd (let again = has.again in cc)
fits-over (drr (q ∷ [])) inputs has for = (length-replicate inputs q, all-same _ q inputs has.arguments.0)
fits-over (drr (q ∷ r ∷ more)) inputs has for = (for, has.arguments)
fits-over (stride tickets) inputs has for = (for, has.arguments)
fits-over (shaper rate burst) inputs has for = (sym for, has.arguments.0, has.arguments.1.0)
fits-over s inputs has for = tt
