-- The turn of a scheduler that asks its inputs in an order.
use Rattle.std.proofs.Common.{◌≡◌, ◌≢◌, ℕ, zero, suc, ◌<◌, List, [], ◌∷◌, length, take, map, slice_index, Option, Some, None, IfSome, refl, sym, ap, subst, arith, rules}
use Rattle.std.specs.List.{AllByRecursion, range_with_len}
use Rattle.std.proofs.lemmas.List.FromFn.{length-range_with_len}
use Rattle.clk_packet.specs.declared.packet.Packet.{Packet}
use Rattle.clk_sched.specs.declared.visit.Visit.{Visit}
use Rattle.clk_sched.specs.declared.session.nodes.Nodes.{Nodes}
use Rattle.clk_packet.specs.Scheduler.{Scheduler}
use Rattle.clk_sched.specs.Tree.{Row, width}
use Rattle.clk_sched.specs.Turns.{Turn, UpToFirst, IsPlain, AsksInOrder, giver}
use Rattle.clk_sched.specs.Laws.{manner, Follows}
use Rattle.clk_sched.specs.Log.{visits_of, result_of, asking}
use Rattle.clk_sched.specs.inside.Pulling.{Now, History, AreApart, input_of, IsReady, HasTurned, AsksAll, GoesOnBy, added, now_of, after, with_turn, as_turn, asked_in_vain, asked_in_order}
use Rattle.clk_packet.specs.Lists.{In}
use Rattle.clk_sched.proofs.Lists.Members.{of-all, to-all, all-weaker}
use Rattle.clk_sched.proofs.Classes.Orders.{IsOrderOf}
use Rattle.clk_sched.proofs.Nodes.Pulling.{pulling-first, pulling-own}

-- the place at which a packet was given is one of an order
abbrev pub IsWithin : List ℕ → Option (ℕ × Packet) → Type 0
IsWithin order r = IfSome r (λ p. p.0 < length order)

pub within-range : (first count : ℕ) (r : Option (ℕ × Packet)) → IfSome r (λ p. p.0 < count) → IsWithin (range_with_len first count) r
within-range first count r h = subst (λ n. IfSome r (λ p. p.0 < n)) (sym (length-range_with_len first count)) h

-- the visits up to the place k, which gave a packet
abbrev walked : Now → ℕ → List ℕ → ℕ → Packet → List Visit
walked now x order k packet = asked_in_order now x order (Some (k, packet))

-- what holds of each visit that asks one of the order
vain-all : (P : Visit → Type 0) (now : Now) (x : ℕ) (order : List ℕ) → AllByRecursion (λ i. (o : Option Packet) → P (asking now.number now.moment x i o)) order → AllByRecursion P (asked_in_vain now x order)
vain-all P now x [] h = tt
vain-all P now x (i ∷ order) h = (h.0 None, vain-all P now x order h.1)

walked-all : (P : Visit → Type 0) (now : Now) (x : ℕ) (order : List ℕ) (k : ℕ) (packet : Packet) → k < length order → AllByRecursion (λ i. (o : Option Packet) → P (asking now.number now.moment x i o)) order
    → AllByRecursion P (walked now x order k packet)
walked-all P now x [] k packet l h = absurd (omega arith)
walked-all P now x (i ∷ order) zero packet l h = (h.0 (Some packet), tt)
walked-all P now x (i ∷ order) (suc k) packet l h = (h.0 None, walked-all P now x order k packet (omega arith) h.1)

pub in_order-all : (P : Visit → Type 0) (now : Now) (x : ℕ) (order : List ℕ) (r : Option (ℕ × Packet)) → IsWithin order r → ((i : ℕ) → In i order → (o : Option Packet) → P (asking now.number now.moment x i o))
    → AllByRecursion P (asked_in_order now x order r)
in_order-all P now x order r l h = search (rules, vain-all, to-all, walked-all)

vain-up_to : (now : Now) (x : ℕ) (order : List ℕ) → UpToFirst order (asked_in_vain now x order)
vain-up_to now x [] = tt
vain-up_to now x (i ∷ order) = (refl, vain-up_to now x order)

walked-up_to : (now : Now) (x : ℕ) (order : List ℕ) (k : ℕ) (packet : Packet) → k < length order → UpToFirst order (walked now x order k packet)
walked-up_to now x [] k packet l = absurd (omega arith)
walked-up_to now x (i ∷ order) zero packet l = (refl, refl)
walked-up_to now x (i ∷ order) (suc k) packet l = (refl, walked-up_to now x order k packet (omega arith))

pub in_order-up_to : (now : Now) (x : ℕ) (order : List ℕ) (r : Option (ℕ × Packet)) → IsWithin order r → UpToFirst order (asked_in_order now x order r)
in_order-up_to now x order r l = search (rules, vain-up_to, walked-up_to)

vain-apart : (now : Now) (x : ℕ) (order : List ℕ) → AreApart (λ (i : ℕ). i) order → AreApart input_of (asked_in_vain now x order)
vain-apart now x [] h = tt
vain-apart now x (i ∷ order) h = (vain-all (λ (v : Visit). v.input ≢ i) now x order (all-weaker (λ j. j ≢ i) _ order (λ j d o. d) h.0), vain-apart now x order h.1)

walked-apart : (now : Now) (x : ℕ) (order : List ℕ) (k : ℕ) (packet : Packet) → k < length order → AreApart (λ (i : ℕ). i) order → AreApart input_of (walked now x order k packet)
walked-apart now x [] k packet l h = absurd (omega arith)
walked-apart now x (i ∷ order) zero packet l h = (tt, tt)
walked-apart now x (i ∷ order) (suc k) packet l h = search (rules, walked-all, all-weaker, (walked-apart now x order k packet (omega arith) h.1))

in_order-apart : (now : Now) (x : ℕ) (order : List ℕ) (r : Option (ℕ × Packet)) → IsWithin order r → AreApart (λ (i : ℕ). i) order → AreApart input_of (asked_in_order now x order r)
in_order-apart now x order r l h = search (rules, vain-apart, walked-apart)

vain-result : (now : Now) (x : ℕ) (order : List ℕ) → result_of (asked_in_vain now x order) ≡ None
vain-result now x [] = refl
vain-result now x (i ∷ order) = vain-result now x order

walked-result : (now : Now) (x : ℕ) (order : List ℕ) (k : ℕ) (packet : Packet) → k < length order → result_of (walked now x order k packet) ≡ Some packet
walked-result now x [] k packet l = absurd (omega arith)
walked-result now x (i ∷ order) zero packet l = refl
walked-result now x (i ∷ order) (suc k) packet l = walked-result now x order k packet (omega arith)

abbrev pub packet_of : Option (ℕ × Packet) → Option Packet
packet_of None = None
packet_of (Some p) = Some p.1

in_order-result : (now : Now) (x : ℕ) (order : List ℕ) (r : Option (ℕ × Packet)) → IsWithin order r → result_of (asked_in_order now x order r) ≡ packet_of r
in_order-result now x order r l = search (rules, vain-result, walked-result)

-- the input that gave
vain-giver : (now : Now) (x : ℕ) (order : List ℕ) → giver (asked_in_vain now x order) ≡ None
vain-giver now x [] = refl
vain-giver now x (i ∷ order) = vain-giver now x order

walked-giver : (now : Now) (x : ℕ) (order : List ℕ) (k : ℕ) (packet : Packet) → k < length order → giver (walked now x order k packet) ≡ Some (slice_index order k)
walked-giver now x [] k packet l = absurd (omega arith)
walked-giver now x (i ∷ order) zero packet l = refl
walked-giver now x (i ∷ order) (suc k) packet l = walked-giver now x order k packet (omega arith)

abbrev pub giver_at : List ℕ → Option (ℕ × Packet) → Option ℕ
giver_at order None = None
giver_at order (Some p) = Some (slice_index order p.0)

pub in_order-giver : (now : Now) (x : ℕ) (order : List ℕ) (r : Option (ℕ × Packet)) → IsWithin order r → giver (asked_in_order now x order r) ≡ giver_at order r
in_order-giver now x order r l = search (rules, vain-giver, walked-giver)

-- the inputs that were asked
pub walked-inputs : (now : Now) (x : ℕ) (order : List ℕ) (k : ℕ) (packet : Packet) → k < length order → map input_of (asked_in_order now x order (Some (k, packet))) ≡ take (suc k) order
walked-inputs now x [] k packet l = absurd (omega arith)
walked-inputs now x (i ∷ order) zero packet l = refl
walked-inputs now x (i ∷ order) (suc k) packet l = ap (λ l. i ∷ l) (walked-inputs now x order k packet (omega arith))

-- A scheduler had its turn, and these are its visits.
pub record HasTurnedBy (old new : Nodes) (history : History) (x : ℕ) (class : Scheduler) (row : Row) (own : List Visit) (got : Option Packet) : Type 0 where
  pub turned : HasTurned old new history x class row got
  pub own_is : visits_of x (added old new) ≡ own

pub turned-in-order : (old new : Nodes) (history : History) (x : ℕ) (class : Scheduler) (row : Row) (order : List ℕ) (r : Option (ℕ × Packet)) → IsReady old history x row → IsWithin order r
    → AsksAll old new x order (asked_in_order (now_of old) x order r) → IsOrderOf (width row) order
    → (AsksInOrder order (asked_in_order (now_of old) x order r) → Follows (manner class (width row)) (width row) (history x) (as_turn old.moment (asked_in_order (now_of old) x order r)))
    → HasTurnedBy old new history x class row (asked_in_order (now_of old) x order r) (packet_of r)
turned-in-order old new history x class row order r ready within asked is follows =
    record {
      turned = record {
        block = record {
          own = own;
          made = goes.pulling.made;
          whole = goes.pulling.whole;
          theirs = goes.pulling.theirs;
          apart = in_order-apart now x order r within is.apart;
          allowed = record {
            within = in_order-all (λ (v : Visit). v.input < width row) now x order r within (λ i m o. of-all (λ j. j < width row) i order is.within m);
            follows = follows (record { plain = in_order-all IsPlain now x order r within (λ i m o. record { fresh = refl; passed = refl }); in_order = in_order-up_to now x order r within });
          };
          each = goes.pulling.each;
          result = sym (in_order-result now x order r within);
        };
        holds = goes.pulling.holds;
        outside = goes.outside;
      };
      own_is = pulling-own now history x row new.states.items (added old new) own goes.pulling;
    }
  where
    now : Now
    now = now_of old

    own : List Visit
    own = asked_in_order now x order r

    goes : GoesOnBy old new history x row [] [] own
    goes = search (rules, pulling-first, to-all, now)

-- the turns of a node after visits of which one got a packet, or none did
pub with_turn-given : (moment : ℕ) (own : List Visit) (turns : List Turn) (i : ℕ) → giver own ≡ Some i → with_turn moment own turns ≡ as_turn moment own ∷ turns
with_turn-given moment own turns i e = search rules

pub after-own : (old new : Nodes) (history : History) (x : ℕ) (own : List Visit) → visits_of x (added old new) ≡ own → after history old.moment (added old new) x ≡ with_turn old.moment own (history x)
after-own old new history x own e = ap (λ vs. with_turn old.moment vs (history x)) e
