use Rattle.std.proofs.Common.{◌≡◌, ℕ, ◌+◌, ◌≤◌, ◌==◌, if◌then◌else◌, List, [], ◌∷◌, ◌++◌, Option, Some, None, unwrap_or, length, refl, ap, ap₂, ◌∙◌, subst, arith, rules}
use Rattle.std.specs.List.{filter_map, range_with_len}
use Rattle.std.proofs.lemmas.Bool.{false≢true}
use Rattle.std.proofs.lemmas.List.Elements.{filter_map-append}
use Rattle.clk_packet.specs.declared.packet.Offered.TheVariants.{Accepted}
use Rattle.clk_sched.specs.declared.visit.Visit.{Visit}
use Rattle.clk_sched.specs.Log.{asking}
use Rattle.clk_sched.specs.Session.{given_in}
use Rattle.clk_router.specs.Events.{Event, offered, pulled, pull_in, events_at, pulls_from, Closes}
use Rattle.clk_script.specs.Meaning.{CloseFirst}
use Rattle.clk_script.specs.Examples.{p0_0, p1_0, two_devices, closed_at_once, one_at_each, closed_last_first, closed_on}
use Rattle.clk_router.proofs.Callers.Events.{pulls-visits, pulls-moments}
use Rattle.clk_script.proofs.laws.closing_examples.Goals as goal

-- the device of the first pull
first_device : List Event → Option ℕ
first_device [] = None
first_device (offered p outcome ∷ events) = None
first_device (pulled device moment visits ∷ events) = Some device

-- the moments of the pulls of a device
moment_at : ℕ → Event → Option ℕ
moment_at d (offered p outcome) = None
moment_at d (pulled device moment visits) = if device == d then Some moment else None

begins-there : (device t : ℕ) (closing : List (List Visit)) (more : List Event) → 1 ≤ length (given_in closing) → first_device (pulls_from device t closing ++ more) ≡ Some device
unfolding first_device
begins-there device t [] more some = absurd (omega (arith, some))
begins-there device t (visits ∷ closing) more some = refl

no-moments : (t : ℕ) (closing : List (List Visit)) → filter_map (moment_at 1) (pulls_from 0 t closing) ≡ []
unfolding moment_at
no-moments t [] = refl
no-moments t (visits ∷ closing) = no-moments (t + 1) closing

its-moments : (t : ℕ) (closing : List (List Visit)) → filter_map (moment_at 1) (pulls_from 1 t closing) ≡ range_with_len t (length closing)
unfolding moment_at
its-moments t [] = refl
its-moments t (visits ∷ closing) = ap (λ l. t ∷ l) (its-moments (t + 1) closing)

pub returns-clause-at_once : goal.returns-clause-at_once
returns-clause-at_once c = record { closing = filter_map pull_in closed_at_once; are = refl; all = refl; stops = refl }

pub returns-clause-not_without_a_pull : goal.returns-clause-not_without_a_pull
returns-clause-not_without_a_pull c = search (rules, pulls-visits)

pub returns-clause-not_a_tick_early : goal.returns-clause-not_a_tick_early
returns-clause-not_a_tick_early c = search (rules, pulls-visits, pulls-moments)

pub returns-clause-not_a_pull_late : goal.returns-clause-not_a_pull_late
returns-clause-not_a_pull_late c = search (rules, pulls-visits, false≢true)

pub returns-clause-in_turn : goal.returns-clause-in_turn
returns-clause-in_turn c =
    let first = pulled 0 5 (asking 0 5 0 0 (Some p0_0) ∷ []) ∷ [] in
    let second = pulled 1 5 (asking 0 5 0 0 (Some p1_0) ∷ []) ∷ [] in (
      first,
      second,
      ([], first, refl, record { closing = (asking 0 5 0 0 (Some p0_0) ∷ []) ∷ []; are = refl; all = refl; stops = refl }, refl),
      record { closing = (asking 0 5 0 0 (Some p1_0) ∷ []) ∷ []; are = refl; all = refl; stops = refl },
      refl,
    )

-- a range begins where it begins
later : (n : ℕ) → 6 ∷ [] ≡ range_with_len 5 n → ⊥
later n e = search rules

-- What closes the two devices: pulls of the first from moment 5 on, which give a packet, and then pulls of the second from the same.
record AreInTurn (closed : List Event) : Type 0 where
  first : List (List Visit)
  second : List (List Visit)
  are : closed ≡ pulls_from 0 5 first ++ pulls_from 1 5 second
  some : 1 ≤ length (given_in first)

none-there : (t : ℕ) (closing : List (List Visit)) → events_at two_devices 1 (pulls_from 0 t closing) ≡ []
none-there t [] = refl
none-there t (visits ∷ closing) = none-there (t + 1) closing

in-turn : (closed : List Event) → CloseFirst two_devices 4 2 one_at_each closed → AreInTurn closed
in-turn closed h =
    let first : Closes 0 4 (events_at two_devices 0 one_at_each) h.2.1 = subst (λ l. Closes 0 4 (events_at two_devices 0 (one_at_each ++ l)) h.2.1) h.2.2 h.2.3 in
    let all : 1 ≡ 0 + 0 + length (given_in first.closing) = first.all in
    let before : h.0 ≡ pulls_from 0 5 first.closing = h.2.4 ∙ ap₂ (λ x y. x ++ y) h.2.2 first.are in
    let second = subst (λ l. Closes 1 4 (events_at two_devices 1 (one_at_each ++ l)) h.1) before h.3 in
    let at : events_at two_devices 1 (one_at_each ++ pulls_from 0 5 first.closing) ≡ offered p1_0 Accepted ∷ [] = ap (λ l. offered p1_0 Accepted ∷ l) (none-there 5 first.closing) in
    let last : Closes 1 4 (offered p1_0 Accepted ∷ []) h.1 = subst (λ l. Closes 1 4 l h.1) at second in
    record { first = first.closing; second = last.closing; are = h.4 ∙ ap₂ (λ x y. x ++ y) before last.are; some = omega (arith, all) }

pub returns-clause-not_last_first : goal.returns-clause-not_last_first
unfolding first_device
returns-clause-not_last_first c = λ h.
    let turns = in-turn closed_last_first h in
    let begins : Some 1 ≡ Some 0 = ap first_device turns.are ∙ begins-there 0 5 turns.first (pulls_from 1 5 turns.second) turns.some in
    let device : 1 ≡ 0 = ap (λ o. unwrap_or o 0) begins in
    absurd (omega (arith, device))

pub returns-clause-not_on : goal.returns-clause-not_on
unfolding moment_at
returns-clause-not_on c = λ h.
    let turns = in-turn closed_on h in
    let moments : 6 ∷ [] ≡ range_with_len 5 (length turns.second) =
    ap (filter_map (moment_at 1)) turns.are ∙ filter_map-append (moment_at 1) (pulls_from 0 5 turns.first) (pulls_from 1 5 turns.second)
    ∙ ap₂ (λ x y. x ++ y) (no-moments 5 turns.first) (its-moments 5 turns.second)
    in
    absurd (later (length turns.second) moments)
