-- An order of inputs that is asked in two parts.
use Rattle.std.proofs.lemmas.Grind.{common_steps}
use Rattle.std.proofs.Common.{◌≡◌, ℕ, suc, ◌+◌, ◌<◌, List, [], ◌∷◌, ◌++◌, length, slice_index, Option, Some, None, refl, sym, ap, subst, arith}
use Rattle.clk_packet.specs.declared.packet.Packet.{Packet}
use Rattle.clk_sched.specs.declared.session.nodes.Nodes.{Nodes}
use Rattle.clk_sched.specs.Log.{asking}
use Rattle.clk_sched.specs.Answers.{Answers}
use Rattle.clk_sched.specs.inside.Places.{edges_in, queue_asked}
use Rattle.clk_sched.specs.inside.Pulling.{Now, Keeps, AsksAll, now_of, added, asked_in_vain, asked_in_order}
use Rattle.clk_sched.specs.inside.Turning.{HasAskedAll}
use Rattle.clk_sched.proofs.Nodes.Asking.{IsAsking, keeps-then, added-then, answers-then, asks-then, edges-append, vain-in, same-now}

-- a place in the second of two orders, as one of both
abbrev pub past : List ℕ → ℕ → ℕ
past [] k = k
past (i ∷ one) k = suc (past one k)

abbrev pub in_second : List ℕ → Option (ℕ × Packet) → Option (ℕ × Packet)
in_second one None = None
in_second one (Some r) = Some (past one r.0, r.1)

pub past-length : (one : List ℕ) (k : ℕ) → past one k ≡ length one + k
past-length [] k = omega arith
past-length (i ∷ one) k = let e = past-length one k in omega (arith, e)

vain-append : (now : Now) (x : ℕ) (one other : List ℕ) → asked_in_vain now x (one ++ other) ≡ asked_in_vain now x one ++ asked_in_vain now x other
vain-append now x one other = grind (arith, common_steps)

pub in_order-second : (now : Now) (x : ℕ) (one other : List ℕ) (r : Option (ℕ × Packet)) → asked_in_vain now x one ++ asked_in_order now x other r ≡ asked_in_order now x (one ++ other) (in_second one r)
in_order-second now x one other None = sym (vain-append now x one other)
in_order-second now x one other (Some r) = again one
  where
    again : (one : List ℕ) → asked_in_vain now x one ++ asked_in_order now x other (Some r) ≡ asked_in_order now x (one ++ other) (Some (past one r.0, r.1))
    again [] = refl
    again (i ∷ one) = ap (λ l. asking now.number now.moment x i None ∷ l) (again one)

pub in_order-first : (now : Now) (x : ℕ) (one other : List ℕ) (k : ℕ) (p : Packet) → k < length one → asked_in_order now x one (Some (k, p)) ≡ asked_in_order now x (one ++ other) (Some (k, p))
in_order-first now x one other k p l = grind (arith, common_steps)

pub index-first : (one other : List ℕ) (k : ℕ) → k < length one → slice_index (one ++ other) k ≡ slice_index one k
index-first one other k l = grind (arith, common_steps)

pub index-second : (one other : List ℕ) (k : ℕ) → slice_index (one ++ other) (past one k) ≡ slice_index other k
index-second [] other k = refl
index-second (i ∷ one) other k = index-second one other k

-- An order was asked in vain, and then another.
pub asked-both : {S : Type 0} (gives : S → ℕ → Option Packet → S → Type 0) (a b c : Nodes) (q s t : S) (x : ℕ) (one other : List ℕ) (r : Option (ℕ × Packet)) → IsAsking gives a b q s x one → HasAskedAll gives b c s t x other r
    → HasAskedAll gives a c q t x (one ++ other) (in_second one r)
asked-both gives a b c q s t x one other r h k =
    let second : Keeps (suc x) b c (edges_in a.inputs.items x other) = subst (λ table. Keeps (suc x) b c (edges_in table x other)) h.keeps.inputs k.keeps in
    let edges = edges-append a.inputs.items x one other in
    record {
      keeps = subst (Keeps (suc x) a c) (sym edges) (keeps-then a b c (edges_in a.inputs.items x one) (edges_in a.inputs.items x other) h.keeps second);
      answers = subst (λ l. Answers gives (queue_asked a.inputs.items) q l t) (sym (added-then a b c _ _ h.keeps second))
          (answers-then gives (queue_asked a.inputs.items) (added a b) (added b c) q s t h.answers (subst (λ table. Answers gives (queue_asked table) s (added b c) t) h.keeps.inputs k.answers));
      asks = subst (AsksAll a c x (one ++ other)) (in_order-second (now_of a) x one other r)
          (asks-then a b c _ _ x one other (asked_in_vain (now_of a) x one) (asked_in_order (now_of a) x other r) h.keeps second (vain-in (now_of a) x one) h.asks
          (subst (λ now. AsksAll b c x other (asked_in_order now x other r)) (same-now a b _ h.keeps) k.asks));
    }
