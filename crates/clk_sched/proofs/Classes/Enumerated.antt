-- Inputs with their passes, by place.
use Rattle.std.proofs.Common.{◌≡◌, ℕ, ◌+◌, ◌<◌, List, [], ◌∷◌, length, slice_get, Some, suc, inl, inr, sym, ap, ap₂, ◌∙◌, subst, zero-add, arith}
use Rattle.std.specs.List.{enumerate_from}
use Rattle.std.proofs.lemmas.Option.{slice_get-get_or, unwrap_or-slice_get}
use Rattle.std.proofs.lemmas.List.FromFn.{get_or-enumerate_from, length-enumerate_from}
use Rattle.clk_sched.specs.Laws.Stride.{pass_in}
use Rattle.clk_packet.specs.Lists.{In}
use Rattle.clk_sched.proofs.Lists.Members.{in-slice}

pub at-enumerated : (passes : List ℕ) (i : ℕ) → i < length passes → slice_get (enumerate_from 0 passes) i ≡ Some (i, pass_in passes i)
at-enumerated passes i l =
    slice_get-get_or (enumerate_from 0 passes) i (0, 0) (subst (λ n. i < n) (sym (length-enumerate_from 0 passes)) l)
    ∙ ap Some (get_or-enumerate_from 0 passes i (0, 0) l ∙ ap₂ (λ j x. (j, x)) (zero-add i) (sym (unwrap_or-slice_get passes i 0)))

pub in-enumerated : (passes : List ℕ) (i : ℕ) → i < length passes → In (i, pass_in passes i) (enumerate_from 0 passes)
in-enumerated passes i l = in-slice (enumerate_from 0 passes) i (i, pass_in passes i) (at-enumerated passes i l)

-- a pair among the inputs from one on, with its place
pub enumerated-at : (n : ℕ) (passes : List ℕ) (x : ℕ × ℕ) → In x (enumerate_from n passes) → (k : ℕ) × (n + k ≡ x.0) × (k < length passes) × (pass_in passes k ≡ x.1)
enumerated-at n [] x m = absurd m
enumerated-at n (p ∷ passes) x (inl e) = (0, ap (λ y. y.0) (let zero_is : n + 0 ≡ n = omega arith in ap (λ j. (j, p)) zero_is ∙ e), omega arith, ap (λ y. y.1) e)
enumerated-at n (p ∷ passes) x (inr m) = let rest = enumerated-at (n + 1) passes x m in (suc rest.0, let e = rest.1 in omega (arith, e), let l = rest.2 in omega arith, rest.3)
