-- How the devices of a router are closed one after the other.
use Rattle.std.proofs.Common.{◌≡◌, ℕ, ◌+◌, ◌<◌, ◌≤◌, ◌==◌, suc, Bool, false, List, [], ◌∷◌, ◌++◌, length, refl, sym, ap, ap₂, subst, ◌∙◌, append_assoc, append-nil, add-one, arith, rules}
use Rattle.std.specs.List.{flat_map}
use Rattle.std.proofs.lemmas.List.{length-append}
use Rattle.std.proofs.lemmas.List.Concat.{flat_map-append}
use Rattle.std.proofs.lemmas.Bool.Decides.{nat_tests}
use Rattle.clk_sched.specs.declared.session.departures.Departure.{Departure}
use Rattle.clk_script.specs.declared.script_router.ScriptRouter.{ScriptRouter}
use Rattle.clk_router.specs.Events.{Setup, Event}
use Rattle.clk_script.specs.Meaning.{has_several, closing_text}
use Rattle.clk_script.specs.inside.ScriptRouter.{AreAlike, IsAt, IsReady, departure_text, LeadsOnByDrain, StaysElsewhere}
use Rattle.clk_router.specs.Course.{events_of, CanClose}
use Rattle.clk_script.specs.declared.limits.TheConstants.{MAX_MOMENT}
use Rattle.clk_script.specs.inside.Rows.{closings_text, ClosesFirst, IsClosedAt}
use Rattle.clk_script.proofs.Carrying.ScriptRouterLemmas.{can-close, CanClose-still}

-- the closings of some devices, and of one more
closings-more : (several : Bool) (device : ℕ) (closings : List (List Departure)) (departures : List Departure)
    → closings_text several device (closings ++ departures ∷ []) ≡ closings_text several device closings ++ flat_map (departure_text several (device + length closings)) departures
closings-more several device [] departures = search (rules, append-nil, append_assoc)
closings-more several device (first ∷ closings) departures = search (rules, append-nil, append_assoc, (closings-more several (device + 1) closings departures))

-- The devices before a number were closed, and at the others nothing has happened since.
pub record IsClosedTo (old new : ScriptRouter) (moment : ℕ) (closings : List (List Departure)) (d : ℕ) : Type 0 where
  pub within : d ≤ length old.router.setup.trees
  pub setup : new.router.setup ≡ old.router.setup
  pub later : (k : ℕ) → d ≤ k → events_of new.router k ≡ events_of old.router k
  pub closings_count : length closings ≡ d
  pub given : new.given ≡ old.given
  pub keeps : new.router.keeps ≡ old.router.keeps
  pub alike : AreAlike new
  pub closes : (setup : Setup) (events : List Event) → IsAt setup events old → ClosesFirst setup new moment d closings events

pub IsClosedTo-none : (r : ScriptRouter) (moment : ℕ) (closings : List (List Departure)) → closings ≡ [] → AreAlike r → IsClosedTo r r moment closings 0
IsClosedTo-none r moment closings none alike =
    record {
      within = omega arith;
      setup = refl;
      later = λ k below. refl;
      closings_count = ap length none;
      given = refl;
      keeps = refl;
      alike = alike;
      closes = λ setup events at. record {
        closing = record { closed = []; closes = refl; leads = subst (λ l. IsAt setup l r) (sym (append-nil events)) at };
        lines = ap (closings_text (has_several setup) 0) (sym none);
      };
    }

-- the next device can be drained
pub IsClosedTo-can : (old new : ScriptRouter) (moment : ℕ) (closings : List (List Departure)) (d : ℕ) → IsClosedTo old new moment closings d → IsReady old → moment ≤ MAX_MOMENT → d < length new.router.setup.trees → CanClose new.router d moment
IsClosedTo-can old new moment closings d closed ready low within =
    CanClose-still old.router new.router d moment closed.setup (closed.later d (omega arith))
    (can-close old ready d moment (subst (λ (s : Setup). d < length s.trees) closed.setup within) low)

-- One device more was drained.
pub IsClosedTo-more : (old mid new : ScriptRouter) (moment : ℕ) (closings : List (List Departure)) (d : ℕ) (departures : List Departure) → IsClosedTo old mid moment closings d → d < length mid.router.setup.trees
    → StaysElsewhere d mid.router new.router → new.router.setup ≡ mid.router.setup → new.given ≡ mid.given → new.router.keeps ≡ mid.router.keeps → AreAlike new
    → ((setup : Setup) (events : List Event) → IsAt setup events mid → LeadsOnByDrain setup new d moment events departures) → IsClosedTo old new moment (closings ++ departures ∷ []) (d + 1)
IsClosedTo-more old mid new moment closings d departures closed within elsewhere setup_is given keeps alike leads =
    subst (IsClosedTo old new moment (closings ++ departures ∷ [])) (sym (add-one d)) (record {
      within = let count = ap (λ (s : Setup). length s.trees) closed.setup in omega (arith, count, within);
      setup = setup_is ∙ closed.setup;
      later =
          λ k below.
          let other : (d == k) ≡ false = grind (arith, nat_tests) in
          elsewhere k other ∙ closed.later k (omega (arith, below));
      closings_count = length-append closings (departures ∷ []) ∙ ap (λ n. n + 1) closed.closings_count ∙ add-one d;
      given = given ∙ closed.given;
      keeps = keeps ∙ closed.keeps;
      alike = alike;
      closes = closes;
    })
  where
    closes : (setup : Setup) (events : List Event) → IsAt setup events old → ClosesFirst setup new moment (suc d) (closings ++ departures ∷ []) events
    closes setup events at =
        let done = closed.closes setup events at in
        let drain = leads setup (events ++ done.closing.closed) done.closing.leads in
        let several = has_several setup in
        let its : d ≡ 0 + length closings = let all = closed.closings_count in omega (arith, all) in
        record {
          closing = record {
            closed = done.closing.closed ++ drain.last;
            closes = (done.closing.closed, drain.last, done.closing.closes, drain.closes, refl);
            leads = subst (λ l. IsAt setup l new) (append_assoc events done.closing.closed drain.last) drain.leads;
          };
          lines =
              flat_map-append (closing_text several) done.closing.closed drain.last
              ∙ ap₂ (λ a b. a ++ b) done.lines (drain.lines ∙ ap (λ n. flat_map (departure_text several n) departures) its)
              ∙ sym (closings-more several 0 closings departures);
        }

-- All were.
pub all-closed : (old new : ScriptRouter) (moment : ℕ) (closings : List (List Departure)) (d : ℕ) → IsClosedTo old new moment closings d → length new.router.setup.trees ≤ d → IsClosedAt old new moment closings
all-closed old new moment closings d closed all =
    let within = closed.within in
    let count = ap (λ (s : Setup). length s.trees) closed.setup in
    let same : d ≡ length old.router.setup.trees = omega (arith, within, count, all) in
    record { closings_count = closed.closings_count ∙ same; given = closed.given; keeps = closed.keeps; closes = subst (λ n. (setup : Setup) (events : List Event) → IsAt setup events old → ClosesFirst setup new moment n closings events) same closed.closes }
