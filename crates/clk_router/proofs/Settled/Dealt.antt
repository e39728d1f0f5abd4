-- What a sender offered is dealt to what was accepted of it and what was refused, and what holds of all members of lists.
use Rattle.std.proofs.Common.{◌≡◌, inl, inr, ℕ, zero, suc, ◌<◌, ◌==◌, List, [], ◌∷◌, length, Some, slice_get, refl, arith}
use Rattle.std.specs.List.{filter_map, AllByRecursion}
use Rattle.clk_packet.specs.declared.packet.Offered.TheVariants.{Accepted, Refused, Evicted}
use Rattle.clk_packet.specs.Lists.{of_sender}
use Rattle.clk_router.specs.Events.{Event, offered, pulled, accepted_in, refused_in}
use Rattle.clk_packet.specs.Dealt.{IsDealt}
use Rattle.clk_packet.proofs.Callers.Dealt.{dealt-kept}
use Rattle.clk_router.specs.Settled.{offered_in, offered_of}

-- what was offered is dealt to what was accepted and what was refused
all-offered : (events : List Event) → IsDealt (filter_map offered_in events) (filter_map accepted_in events) (filter_map refused_in events)
all-offered [] = (refl, refl)
all-offered (offered p Accepted ∷ events) = inl (filter_map accepted_in events, refl, all-offered events)
all-offered (offered p (Refused q) ∷ events) = inr (filter_map refused_in events, refl, all-offered events)
all-offered (offered p (Evicted front) ∷ events) = inl (filter_map accepted_in events, refl, all-offered events)
all-offered (pulled device moment visits ∷ events) = all-offered events

pub offered-dealt : (s : ℕ) (events : List Event) → IsDealt (offered_of events s) (of_sender s (filter_map accepted_in events)) (of_sender s (filter_map refused_in events))
offered-dealt s events = dealt-kept (λ p. p.sender == s) (filter_map offered_in events) (filter_map accepted_in events) (filter_map refused_in events) (all-offered events)

-- what holds of all members of a list
pub all-for : {K X : Type 0} (P : K → X → Type 0) (xs : List X) → ((k : K) → AllByRecursion (P k) xs) → AllByRecursion (λ x. (k : K) → P k x) xs
all-for P [] h = tt
all-for P (x ∷ xs) h = ((λ k. (h k).0), all-for P xs (λ k. (h k).1))

-- a list without members is empty
pub no-members : {X : Type 0} (xs : List X) → length xs ≡ 0 → xs ≡ []
no-members [] e = refl
no-members (x ∷ xs) e = absurd (omega (arith, e))

-- the member at a place
pub member-there : {X : Type 0} (xs : List X) (i : ℕ) → i < length xs → (x : X) × (slice_get xs i ≡ Some x)
member-there [] i within = absurd (omega (arith, within))
member-there (x ∷ xs) zero within = (x, refl)
member-there (x ∷ xs) (suc i) within = member-there xs i (omega (arith, within))
