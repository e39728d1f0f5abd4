-- The halves of a ring stay together, and what a taker knows of it grows.
use Rattle.std.proofs.Common.{◌≡◌, ◌++◌, ◌∷◌, [], List, length, sym, ap, ◌∙◌, refl, arith}
use Rattle.std.proofs.lemmas.List.{append_assoc}
use mathlib.Core.List.{IsPrefix}
use Rattle.rtrb.specs.Ring.{IsPair, SameProducer, SameConsumer}
use Rattle.rtrb.specs.declared.producer.Producer.{Producer}
use Rattle.rtrb.specs.declared.consumer.Consumer.{Consumer}

module _ {T A P : Type 0} where
  -- a call of one half leaves both at their ring
  pub sender_stays : (p q : Producer T A P) (c : Consumer T A P) → SameProducer p q → IsPair p c → IsPair q c
  sender_stays p q c s h = (h.0 ∙ sym s.0.0, h.1 ∙ sym s.0.1, h.2 ∙ sym s.0.2, h.3 ∙ sym s.0.3)

  pub taker_stays : (p : Producer T A P) (c d : Consumer T A P) → SameConsumer c d → IsPair p c → IsPair p d
  taker_stays p c d s h = (s.0.0 ∙ h.0, s.0.1 ∙ h.1, s.0.2 ∙ h.2, s.0.3 ∙ h.3)

module _ {X : Type 0} where
  -- what was popped and is seen, where more is seen and some of it taken
  pub known_grows : (popped seen between taken left now : List X) → IsPrefix seen between → IsPrefix between (taken ++ left) → now ≡ popped ++ taken → IsPrefix (popped ++ seen) (now ++ left)
  known_grows popped seen between taken left now h k e = (
    h.0 ++ k.0,
    append_assoc popped seen (h.0 ++ k.0) ∙ ap (λ (l : List X). popped ++ l) (sym (append_assoc seen h.0 k.0) ∙ ap (λ (l : List X). l ++ k.0) h.1 ∙ k.1) ∙ sym (append_assoc popped taken left) ∙ ap (λ (l : List X). l ++ left) (sym e),
  )

  -- two lists of one length that begin the same list are equal
  same_start : (xs ys more left : List X) → xs ++ more ≡ ys ++ left → length xs ≡ length ys → xs ≡ ys
  same_start [] [] more left e same = refl
  same_start [] (y ∷ ys) more left e same = absurd (omega arith)
  same_start (x ∷ xs) [] more left e same = absurd (omega arith)
  same_start (x ∷ xs) (y ∷ ys) more left e same = let rest = same_start xs ys more left (cc) (omega arith) in cc

  -- where all that is seen by then is taken, so is what was seen before
  pub all_taken : (seen between taken left : List X) → IsPrefix seen between → IsPrefix between (taken ++ left) → length taken ≡ length between → IsPrefix seen taken
  all_taken seen between taken left h k same = (h.0, h.1 ∙ same_start between taken k.0 left k.1 (sym same))
