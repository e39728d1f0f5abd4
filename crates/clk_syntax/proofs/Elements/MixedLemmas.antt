-- Names that are sorted by a number of their bytes before the bytes.
use Rattle.std.proofs.Common.{◌≡◌, ℕ, ◌&&◌, Bool, false, cond, List, Option, ap, ◌∙◌, rules}
use Rattle.std.specs.BTreeMap as tree
use Rattle.std.specs.BTreeMap.{BTreeMap}
use Rattle.std.specs.Cmp.Lexicographic.{slice_cmp}
use Rattle.std.specs.Map.{update}
use Rattle.std.specs.Ordering.{nat_cmp, ordering_then, is_eq}
use Rattle.std.specs.Str.{bytes_eq}
use Rattle.std.proofs.lemmas.Map.Text.{is_eq-slice_cmp}
use Rattle.std.proofs.lemmas.Slice.Eq.{bytes_eq-Decides}
use Rattle.clk_syntax.specs.inside.Naming.{mixed}
use denote.Ref.{Bor}

off : (b : Bool) → (b && false) ≡ false
off b = search rules

-- names are compared as equal where they are equal
same-name : (name other : List ℕ) → is_eq (ordering_then (nat_cmp (mixed name) (mixed other)) (slice_cmp nat_cmp name other)) ≡ bytes_eq name other
same-name name other = search (rules, is_eq-slice_cmp, bytes_eq-Decides, off)

-- a table of names after one is set
pub updates-name : {X : Type 0} (old new : BTreeMap (ℕ × Bor (List ℕ)) X) (key : ℕ × Bor (List ℕ)) (value : Option X) → key.0 ≡ mixed key.1.now
    → tree.Updates (λ x y. ordering_then (nat_cmp x.0 y.0) (slice_cmp nat_cmp x.1.now y.1.now)) old new key value
    → (other : List ℕ)
    → tree.get_by (λ k. ordering_then (nat_cmp (mixed other) k.0) (slice_cmp nat_cmp other k.1.now)) new
    ≡ update bytes_eq (λ name. tree.get_by (λ k. ordering_then (nat_cmp (mixed name) k.0) (slice_cmp nat_cmp name k.1.now)) old) key.1.now value other
updates-name old new key value e h other =
    h.0 (mixed other, record { ref_ptr = (0, 0); now = other })
    ∙ ap (λ b. cond b value (tree.get_by (λ k. ordering_then (nat_cmp (mixed other) k.0) (slice_cmp nat_cmp other k.1.now)) old))
    (ap (λ n. is_eq (ordering_then (nat_cmp n (mixed other)) (slice_cmp nat_cmp key.1.now other))) e ∙ same-name key.1.now other)
