-- What all pulls emitted of a sender is what its own device emitted of it.
use Rattle.std.proofs.Common.{◌≡◌, ℕ, ◌==◌, Bool, true, false, List, [], ◌∷◌, length, filter, Some, MatchOption, slice_get, refl, sym, ap, ◌∙◌, subst, arith, rules}
use Rattle.std.specs.List.{filter_map, cons_option, AllByRecursion}
use Rattle.std.specs.Bool.{⊤}
use Rattle.std.proofs.lemmas.Bool.Decides.{nat_tests}
use Rattle.clk_packet.specs.declared.packet.Packet.{Packet}
use Rattle.clk_packet.specs.Lists.{of_sender}
use Rattle.clk_sched.specs.Tree.{Tree}
use Rattle.clk_router.specs.Events.{Setup, Event, offered, pulled, happens_at, events_at, emitted_in, IsOfDevice, RunsTree, CanHappen}
use Rattle.clk_router.specs.Settled.{emitted_by}
use Rattle.clk_router.proofs.Callers.Emitted.{its-given}
use Rattle.clk_router.proofs.Settled.Dealt.{all-for, member-there}

-- the packet of the sender that an event emitted
abbrev OfEvent : ℕ → Event → List Packet
OfEvent s e = of_sender s (cons_option (emitted_in e) [])

-- where no event that passes a test emitted one, each of them emitted none
each-none : (t : Event → Bool) (s : ℕ) (events : List Event) → of_sender s (filter_map emitted_in (filter t events)) ≡ [] → AllByRecursion (λ e. t e ≡ true → OfEvent s e ≡ []) events
each-none t s [] none = tt
each-none t s (e ∷ events) none = search (rules, (each-none t s events))

-- where events elsewhere emitted none, those here emitted all
all-here : (t : Event → Bool) (s : ℕ) (events : List Event) → AllByRecursion (λ e. t e ≡ false → OfEvent s e ≡ []) events → of_sender s (filter_map emitted_in events) ≡ of_sender s (filter_map emitted_in (filter t events))
all-here t s [] h = refl
all-here t s (e ∷ events) h = search (rules, (all-here t s events h.1))

-- What all pulls emitted of a sender is what its device emitted of it, where no other device emitted any.
pub emitted-all : (setup : Setup) (events : List Event) → CanHappen setup events → (d : ℕ) (tree : Tree) → slice_get setup.trees d ≡ Some tree → (s : ℕ) → ((c : ℕ) → (d == c) ≡ false → of_sender s (emitted_by setup c events) ≡ [])
    → of_sender s (filter_map emitted_in events) ≡ of_sender s (emitted_by setup d events)
emitted-all setup events can d tree at s elsewhere = all-here (happens_at setup d) s events each ∙ ap (of_sender s) (sym (its-given tree (events_at setup d events) (subst (λ o. MatchOption o ⊤ (λ t. RunsTree t (events_at setup d events))) at (can.runs d))))
  where
    at-other : AllByRecursion (λ e. (o : (c : ℕ) × ((d == c) ≡ false) × ((t : Tree) × (slice_get setup.trees c ≡ Some t))) → happens_at setup o.0 e ≡ true → OfEvent s e ≡ []) events
    at-other = all-for (λ (o : (c : ℕ) × ((d == c) ≡ false) × ((t : Tree) × (slice_get setup.trees c ≡ Some t))) e. happens_at setup o.0 e ≡ true → OfEvent s e ≡ []) events
        (λ o. each-none (happens_at setup o.0) s events
        (ap (of_sender s) (sym (its-given o.2.0 (events_at setup o.0 events) (subst (λ p. MatchOption p ⊤ (λ t. RunsTree t (events_at setup o.0 events))) o.2.1 (can.runs o.0)))) ∙ elsewhere o.0 o.1))

    by_event : (e : Event) → IsOfDevice (length setup.trees) e → ((o : (c : ℕ) × ((d == c) ≡ false) × ((t : Tree) × (slice_get setup.trees c ≡ Some t))) → happens_at setup o.0 e ≡ true → OfEvent s e ≡ []) → happens_at setup d e ≡ false → OfEvent s e ≡ []
    by_event (offered p outcome) there other isnt = refl
    by_event (pulled c m visits) there other isnt =
        let here : (c == c) ≡ true = grind (arith, nat_tests) in
        let apart : (d == c) ≡ false = grind (arith, nat_tests, isnt) in
        other (c, apart, member-there setup.trees c there) here

    both : (es : List Event) → AllByRecursion (IsOfDevice (length setup.trees)) es → AllByRecursion (λ e. (o : (c : ℕ) × ((d == c) ≡ false) × ((t : Tree) × (slice_get setup.trees c ≡ Some t))) → happens_at setup o.0 e ≡ true → OfEvent s e ≡ []) es
        → AllByRecursion (λ e. happens_at setup d e ≡ false → OfEvent s e ≡ []) es
    both [] h k = tt
    both (e ∷ es) h k = (by_event e h.0 k.0, both es h.1 k.1)

    each : AllByRecursion (λ e. happens_at setup d e ≡ false → OfEvent s e ≡ []) events
    each = both events can.devices at-other
