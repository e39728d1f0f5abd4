-- The two fields of a record.
use Rattle.std.proofs.Common.{◌≡◌, ℕ, zero, suc, ◌<◌, List, [], ◌∷◌, length, Option, Some, None, refl, ◌∙◌, arith}
use Rattle.csv.specs.Records.{field_at}
use Rattle.clk_packet.specs.declared.limits.TheConstants.{MAX_SENDER, MAX_LENGTH}
use Rattle.clk_packet.specs.Numbers.{number_in}
use Rattle.clk_packet.specs.Trace.{pair_in, pair_of}

-- there are two
pub field-there : (fields : List (List ℕ)) (i : ℕ) → length fields ≡ 2 → i < 2 → ◌≡◌ {A = Option (List ℕ)} None (field_at fields i) → ⊥
unfolding field_at
field-there [] i two lt none = omega arith
field-there (a ∷ []) i two lt none = omega arith
field-there (a ∷ b ∷ []) zero two lt none = cc none
field-there (a ∷ b ∷ []) (suc zero) two lt none = cc none
field-there (a ∷ b ∷ []) (suc (suc i)) two lt none = omega arith
field-there (a ∷ b ∷ c ∷ more) i two lt none = omega arith

-- what they say
pair-is : (fields : List (List ℕ)) (a b : List ℕ) → length fields ≡ 2 → Some a ≡ field_at fields 0 → Some b ≡ field_at fields 1 → pair_in fields ≡ pair_of (number_in 0 MAX_SENDER a) (number_in 1 MAX_LENGTH b)
unfolding field_at
pair-is [] a b two e f = absurd (omega arith)
pair-is (x ∷ []) a b two e f = absurd (omega arith)
pair-is (x ∷ y ∷ []) a b two e f =
    let first : a ≡ x = cc e in
    let second : b ≡ y = cc f in
    rw (first, second) refl
pair-is (x ∷ y ∷ z ∷ more) a b two e f = absurd (omega arith)

pub pair-without_sender : (fields : List (List ℕ)) (a : List ℕ) → length fields ≡ 2 → Some a ≡ field_at fields 0 → None ≡ number_in 0 MAX_SENDER a → pair_in fields ≡ None
unfolding field_at
pair-without_sender [] a two e none = absurd (omega arith)
pair-without_sender (x ∷ []) a two e none = absurd (omega arith)
pair-without_sender (x ∷ y ∷ []) a two e none = pair-is (x ∷ y ∷ []) a y two e refl ∙ rw (← none) refl
pair-without_sender (x ∷ y ∷ z ∷ more) a two e none = absurd (omega arith)

without : (o : Option ℕ) → pair_of o None ≡ None
without None = refl
without (Some sender) = refl

pub pair-without_length : (fields : List (List ℕ)) (a b : List ℕ) → length fields ≡ 2 → Some a ≡ field_at fields 0 → Some b ≡ field_at fields 1 → None ≡ number_in 1 MAX_LENGTH b → pair_in fields ≡ None
pair-without_length fields a b two e f none = pair-is fields a b two e f ∙ rw (← none) (without (number_in 0 MAX_SENDER a))

pub pair-of : (fields : List (List ℕ)) (a b : List ℕ) (sender size : ℕ) → length fields ≡ 2 → Some a ≡ field_at fields 0 → Some b ≡ field_at fields 1 → Some sender ≡ number_in 0 MAX_SENDER a
    → Some size ≡ number_in 1 MAX_LENGTH b → pair_in fields ≡ Some (sender, size)
pair-of fields a b sender size two e f g h = pair-is fields a b two e f ∙ rw (← g, ← h) refl
