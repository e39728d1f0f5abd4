-- A visit that is recorded after what it asked.
use Rattle.std.proofs.lemmas.Grind.{common_steps}
use Rattle.std.proofs.Common.{◌≡◌, ℕ, suc, ◌+◌, ◌≤◌, true, List, [], ◌∷◌, ◌++◌, slice_get, Option, Some, None, IsSome, refl, sym, ap, ap₂, ◌-◌, ◌∙◌, subst, append_assoc, arith, rules}
use Rattle.clk_packet.specs.declared.packet.Packet.{Packet}
use Rattle.clk_sched.specs.declared.visit.Visit.{Visit}
use Rattle.clk_sched.specs.declared.session.inputs.Input.TheVariants.{Queue}
use Rattle.clk_sched.specs.declared.session.inputs.Inputs.{Inputs}
use Rattle.clk_sched.specs.declared.session.nodes.Nodes.{Nodes}
use Rattle.clk_sched.specs.Answers.{Answers}
use Rattle.clk_sched.specs.inside.Places.{AllFit, edges_at, input_at, queue_asked}
use Rattle.clk_sched.specs.inside.Pulling.{Keeps, Asks, AsksAll, IsPulling, IsVisitAt, added, now_of}
use Rattle.clk_sched.specs.inside.Looking.{Logs}
use Rattle.clk_sched.proofs.Nodes.Asking.{added-is, keeps-more, asks-one, added-none, keeps-none}
use Rattle.clk_sched.specs.Log.{asking}
use Rattle.clk_sched.specs.inside.Turning.{HasAsked, IsIdle}
use Rattle.clk_sched.proofs.Nodes.Asked.{asks-queue, queue-visited}

-- a visit is logged after a pull below
logged-whole : {f : ℕ} (a b c : Nodes) (m : ℕ) (v : Visit) → Keeps f a b m → Logs b c v → c.log.items ≡ a.log.items ++ (added a b ++ v ∷ [])
logged-whole a b c m v h l = ap (λ k. k.items) l.log ∙ ap (λ k. k ++ v ∷ []) h.grown ∙ append_assoc a.log.items (added a b) (v ∷ [])

pub added-logged : {f : ℕ} (a b c : Nodes) (m : ℕ) (v : Visit) → Keeps f a b m → Logs b c v → added a c ≡ added a b ++ v ∷ []
added-logged a b c m v h l = added-is a c (added a b ++ v ∷ []) (logged-whole a b c m v h l)

pub keeps-logged : {f : ℕ} (a b c : Nodes) (m : ℕ) (v : Visit) → Keeps f a b m → Logs b c v → Keeps f a c (m + 1)
keeps-logged a b c m v h l = grind (arith, common_steps, logged-whole, added-logged)

-- each input has an edge
pub edge-there : (table : List Inputs) (x i : ℕ) → IsSome (input_at table x i) → 1 ≤ edges_at table x i
edge-there table x i h = search rules

-- A node looked at one of its inputs, where a head is held or none is.
pub asks-fresh : {f : ℕ} (a b c : Nodes) (m x : ℕ) (v : Visit) → Keeps f a b m → Logs b c v → IsVisitAt (now_of a) x v → v.fresh ≡ true → Asks a b x v.input v.got → AsksAll a c x (v.input ∷ []) (v ∷ [])
asks-fresh a b c m x v h l at fresh f row history visits own going unasked apart =
    let r = f row history visits own going unasked.0 v at refl fresh refl in
    record {
      pulling =
          subst (λ k. IsPulling (now_of a) history x row c.states.items (visits ++ k) (own ++ v ∷ [])) (sym (added-logged a b c m v h l))
          (subst (λ s. IsPulling (now_of a) history x row s (visits ++ (added a b ++ v ∷ [])) (own ++ v ∷ [])) (sym l.states) r.0);
      outside = λ y k. ap (λ s. slice_get s y) l.states ∙ r.1 y k;
    }

-- An input was asked, and the visit recorded.
pub asked-logged : {S : Type 0} (gives : S → ℕ → Option Packet → S → Type 0) (a b c : Nodes) (q r : S) (x i : ℕ) (got : Option Packet) (w : Visit) → IsSome (input_at a.inputs.items x i) → Keeps (suc x) a b (edges_at a.inputs.items x i - 1)
    → ((v : Visit) → v.node ≡ x → v.input ≡ i → v.fresh ≡ true → v.got ≡ got → Answers gives (queue_asked a.inputs.items) q (added a b ++ v ∷ []) r) → Asks a b x i got → w ≡ asking b.pull b.moment x i got → Logs b c w
    → HasAsked gives a c q r x i got
asked-logged gives a b c q r x i got w there keeps answers asks is logs =
    let edge = edge-there a.inputs.items x i there in
    let v = asking a.pull a.moment x i got in
    let same : w ≡ v = is ∙ ap₂ (λ n m. asking n m x i got) keeps.pull keeps.moment in
    let l : Logs b c v = subst (Logs b c) same logs in
    record {
      keeps = keeps-more a c _ _ (keeps-logged a b c (edges_at a.inputs.items x i - 1) v keeps l) (omega (arith, edge));
      answers = subst (λ k. Answers gives (queue_asked a.inputs.items) q k r) (sym (added-logged a b c _ v keeps l)) (answers v refl refl refl refl);
      asks = asks-one a b c _ x i got keeps (ap (λ k. k.items) l.log) l.states asks;
    }

-- A queue that stands at an input answered.
pub queue-answers : {S : Type 0} (gives : S → ℕ → Option Packet → S → Type 0) (a : Nodes) (q r : S) (x i leaf : ℕ) (got : Option Packet) → input_at a.inputs.items x i ≡ Some (Queue leaf) → gives q leaf got r
    → (v : Visit) → v.node ≡ x → v.input ≡ i → v.fresh ≡ true → v.got ≡ got → Answers gives (queue_asked a.inputs.items) q (added a a ++ v ∷ []) r
queue-answers gives a q r x i leaf got stands answer v node at fresh is = search (rules, added-none, queue-visited)

-- A queue that has nothing needn't be asked: the visit is recorded.
pub idle-asked : {S : Type 0} (gives : S → ℕ → Option Packet → S → Type 0) (a c : Nodes) (q : S) (x i : ℕ) → AllFit a.inputs.items a.states.items → IsIdle gives a q x i → Logs a c (asking a.pull a.moment x i None) → HasAsked gives a c q q x i None
idle-asked gives a c q x i fit idle logs = grind (arith, common_steps, asked-logged, keeps-more, keeps-none, queue-answers, asks-queue)
