-- How a sender sends its packets through its inlet.
use Rattle.std.proofs.Common.{◌≡◌, ℕ, zero, suc, ◌+◌, List, [], ◌∷◌, ◌++◌, take, length, ◌<◌, ◌≤◌, Some, None, slice_get, sym, ap, ◌∙◌, subst, arith}
use Rattle.std.proofs.lemmas.List.{map-append, take_all}
use Rattle.clk_packet.specs.declared.packet.Packet.{Packet}
use Rattle.clk_inlet.specs.Items.{packet_item}
use Rattle.clk_inlet.specs.Halves.{offered, AreHalves}
use Rattle.clk_inlet.specs.declared.inlet.Inlet.{Inlet}
use Rattle.clk_inlet.specs.declared.outlet.Outlet.{Outlet}
use Rattle.clk_live.specs.Sending.{HasSent}
use Rattle.clk_live.proofs.Callers.Sending.{sent_then}
use Rattle.std.specs.declared.thread.PromisedHandle.{PromisedHandle}
use Rattle.clk_packet.specs.Trace.{sent_by}
use Rattle.clk_live_run.specs.declared.senders.SenderInlet.{SenderInlet}
use Rattle.clk_live_run.specs.declared.threads.SenderEnd.{SenderEnd}
use Rattle.clk_live_run.specs.inside.Consuming.{items_of}
use Rattle.clk_live_run.specs.inside.Sending.{IsStarted, GaveBack, HasSentAll}

-- the members up to one that is there
take-next : {X : Type 0} (xs : List X) (n : ℕ) (x : X) → slice_get xs n ≡ Some x → take (n + 1) xs ≡ take n xs ++ x ∷ []
take-next [] n x e = absurd (cc)
take-next (y ∷ xs) zero x e = let same : y ≡ x = cc in ap (λ z. z ∷ []) same
take-next (y ∷ xs) (suc n) x e = let next : suc n + 1 ≡ suc (n + 1) = omega arith in ap (λ k. take k (y ∷ xs)) next ∙ ap (λ zs. y ∷ zs) (take-next xs n x e)

-- one packet more
pub sent-next : (old mid new : Inlet) (packets : List Packet) (n : ℕ) (p : Packet) → slice_get packets n ≡ Some p → HasSent old (items_of (take n packets)) mid → HasSent mid (packet_item p.length 0 ∷ []) new → HasSent old (items_of (take (n + 1) packets)) new
sent-next old mid new packets n p at so one =
    let more : items_of (take n packets) ++ packet_item p.length 0 ∷ [] ≡ items_of (take (n + 1) packets) = sym (ap items_of (take-next packets n p at) ∙ map-append _ (take n packets) (p ∷ [])) in
    subst (λ items. HasSent old items new) more (sent_then old mid new (items_of (take n packets)) (packet_item p.length 0 ∷ []) so one)

-- a member that is there is read
pub none-there : {X : Type 0} (xs : List X) (n : ℕ) → n < length xs → slice_get xs n ≡ None → ⊥
none-there [] n low e = omega (arith, low)
none-there (x ∷ xs) zero low e = cc
none-there (x ∷ xs) (suc n) low e = none-there xs n (omega (arith, low)) e

-- all packets were sent
pub sent-all : (old mid new : Inlet) (packets : List Packet) (n : ℕ) → length packets ≤ n → HasSent old (items_of (take n packets)) mid → offered new ≡ offered mid → ((o : Outlet) → AreHalves mid o → AreHalves new o) → HasSent old (items_of packets) new
sent-all old mid new packets n all so same halves =
    record { offered = same ∙ so.offered ∙ ap (λ xs. offered old ++ items_of xs) (take_all n packets all); halves = λ o h. halves o (so.halves o h) }

-- What a thread promised by its handle, it promised of its sender.
pub sent-so : (traces : List (List Packet)) (s : SenderInlet) (h : PromisedHandle Inlet SenderEnd) (i : Inlet) → IsStarted traces s h → GaveBack h i → HasSentAll traces s i
sent-so traces s h i started back =
    subst (λ (x : Inlet). HasSent x (items_of (sent_by traces s.number)) i) started.inlet
    (subst (λ (n : ℕ). HasSent h.promise.inlet.value (items_of (sent_by traces n)) i) started.number
    (subst (λ (t : List (List Packet)). HasSent h.promise.inlet.value (items_of (sent_by t h.promise.number)) i) started.traces_are back))
