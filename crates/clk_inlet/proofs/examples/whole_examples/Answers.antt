use Rattle.std.proofs.Common.{◌≡◌, [], ◌∷◌, refl, arith, lit≤}
use Rattle.clk_inlet.specs.Items.{MayFollow}
use Rattle.clk_inlet.specs.Examples.{first, second, one_packet, just_ended, ended}
use Rattle.clk_inlet.proofs.Order.{whole}
use Rattle.clk_inlet.proofs.examples.whole_examples.Goals as goal

first_follows : MayFollow [] first
first_follows = record { not_ended = refl; short = lit≤ tt; numbered = λ _. omega arith }

second_follows : MayFollow one_packet second
second_follows = record { not_ended = refl; short = lit≤ tt; numbered = λ _. omega arith }

pub returns-clause-ended : goal.returns-clause-ended
returns-clause-ended c = whole ended refl

pub returns-clause-just_ended : goal.returns-clause-just_ended
returns-clause-just_ended c = whole just_ended refl

pub returns-clause-not_without_end : goal.returns-clause-not_without_end
returns-clause-not_without_end c = λ all. let none : second ∷ [] ≡ [] = all (second ∷ []) (first_follows, (second_follows, tt)) in absurd (cc)

pub returns-clause-not_empty : goal.returns-clause-not_empty
returns-clause-not_empty c = λ all. let none : first ∷ [] ≡ [] = all (first ∷ []) (first_follows, tt) in absurd (cc)
