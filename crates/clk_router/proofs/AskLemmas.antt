-- What a router answers where it is asked what can be done.
use Rattle.std.proofs.Common.{◌≡◌, ℕ, ◌+◌, ◌<◌, ◌≤◌, ◌^◌, false, ◌==◌, List, [], ◌∷◌, length, Some, slice_get, get_or, refl, sym, ap, ◌∙◌, subst, arith, rules}
use Rattle.std.specs.Option.{option_map}
use Rattle.std.specs.List.{AllByRecursion, list_any}
use Rattle.std.proofs.lemmas.List.{length-map}
use Rattle.std.proofs.lemmas.Option.{slice_get-map, slice_get_within, slice_get_read}
use Rattle.clk_sched.specs.Session.{counted_moment, progress_of, pulls_made}
use Rattle.clk_tree.specs.PlanParts.{SendsWithin, number_of}
use Rattle.clk_router.specs.declared.senders.Sender.{Sender}
use Rattle.clk_router.specs.declared.devices.RouterDevice.{RouterDevice}
use Rattle.clk_router.specs.declared.parts.Parts.{Parts}
use Rattle.clk_router.specs.Course.{sender_at, device_at, its_device, room_device, moment_at, pulls_at, CanOffer}
use Rattle.clk_router.specs.Events.{Setup, Event, numbers_of}
use Rattle.clk_router.specs.inside.Parts.{HasSentFew, Stand}
use Rattle.clk_router.proofs.ClosingLemmas.{its-latest, its-pulls}
use Rattle.clk_router.proofs.NeverFull.{never-full}
use Rattle.clk_router.proofs.PartsLemmas.{all-there, IsHere, device-here}
use Rattle.clk_router.proofs.SenderLemmas.{IsSpecAt, spec-at}
use Rattle.clk_router.proofs.RouterLemmas.{course}

-- what a look-up finds is what stands there
pub found-at : {X : Type 0} (xs seen : List X) (i : ℕ) (x : X) → seen ≡ xs → i < length seen → x ≡ get_or seen i x → slice_get xs i ≡ Some x
found-at {X} xs seen i x same low read = subst (λ (l : List X). slice_get l i ≡ Some x) same (slice_get_read seen _ i x refl low read)

module _ (setup : Setup) (events : List Event) (parts : Parts) (stand : Stand setup events parts) where
  -- what an index reads is the device that stands there
  pub device-read : (d : ℕ) → d < length setup.trees → (i : ℕ) (its : RouterDevice) → i ≡ d → its ≡ get_or parts.devices.items i its → slice_get parts.devices.items d ≡ Some its
  device-read d low i its same read =
      slice_get_read parts.devices.items _ d its refl (let count = stand.at.device_count in omega (arith, count, low)) (read ∙ ap (λ k. get_or parts.devices.items k its) same)

  -- a device that is there, and what it came to
  module _ (d : ℕ) (its : RouterDevice) (here : slice_get parts.devices.items d ≡ Some its) where
    there : IsHere setup events d its
    there = device-here setup events parts d its stand.at here

    pub moment-is : counted_moment (progress_of its.session) ≡ moment_at (course setup events parts) d
    moment-is = its-latest setup events d its there

    pub pulls-is : pulls_made (progress_of its.session) ≡ pulls_at (course setup events parts) d
    pulls-is = its-pulls setup events d its there

  -- a sender that is there
  module _ (place : ℕ) (s : Sender) (here : slice_get parts.senders.items place ≡ Some s) where
    spec : IsSpecAt events setup.senders place s
    spec = spec-at events setup.senders place s (ap (λ l. slice_get l place) (sym stand.at.senders) ∙ here)

    pub path-within : s.queue < length parts.paths.items
    path-within =
        let e = ap (λ (t : Sender). t.queue) spec.is in
        let sends = all-there (SendsWithin (length setup.queues)) setup.senders place spec.spec stand.whole.wired spec.here in
        let count = ap length stand.at.paths ∙ length-map setup.queues room_device in
        omega (arith, e, sends, count)

    number : sender_at setup place ≡ Some spec.spec.number
    number = slice_get-map number_of setup.senders place ∙ ap (option_map number_of) spec.here

    sent : s.sent ≡ length (numbers_of spec.spec.number events)
    sent = ap (λ (t : Sender). t.sent) spec.is

    pub sent-by : (sender : ℕ) → sender_at setup place ≡ Some sender → s.sent ≡ length (numbers_of sender events)
    sent-by sender at = let e : spec.spec.number ≡ sender = let both = number in cc (both, at) in sent ∙ ap (λ n. length (numbers_of n events)) e

    -- it can offer one more, since no device is full
    pub offers-yes : length setup.senders ≤ 2 ^ 16 → s.sent + 1 < 2 ^ 32 → CanOffer (course setup events parts) place
    offers-yes senders few = record {
      there = slice_get_within setup.senders place spec.spec spec.here;
      numbers =
          λ sender at.
          let e : spec.spec.number ≡ sender = let both = number in cc (both, at) in
          let n = sent in
          subst (λ k. length (numbers_of k events) + 1 < 2 ^ 32) e (omega (arith, n, few));
      packets =
          λ device at.
          let low = never-full setup events device stand.at.can_happen.senders (subst (AllByRecursion HasSentFew) stand.at.senders stand.at.sent) senders in
          omega (arith, low);
    }

    -- and the device that its packets go to
    module _ (i : ℕ) (device : ℕ) (same : i ≡ s.queue) (is : device ≡ get_or parts.paths.items i device) where
      path : slice_get parts.paths.items s.queue ≡ Some device
      path = slice_get_read parts.paths.items _ s.queue device refl path-within (is ∙ ap (λ k. get_or parts.paths.items k device) same)

      pub device-is : device_at setup place ≡ Some device
      device-is =
          ap (its_device setup.queues) spec.here ∙ sym (slice_get-map room_device setup.queues spec.spec.queue) ∙ ap (λ l. slice_get l spec.spec.queue) (sym stand.at.paths)
          ∙ ap (λ (t : Sender). slice_get parts.paths.items t.queue) (sym spec.is) ∙ path

    pub offers-sent : CanOffer (course setup events parts) place → s.sent + 1 < 2 ^ 32
    offers-sent can =
        let few = can.numbers spec.spec.number number in
        let n = sent in
        omega (arith, n, few)

-- where a number is none of some, no place has it
pub none-at : (numbers : List ℕ) (n place : ℕ) → list_any (λ m. m == n) numbers ≡ false → slice_get numbers place ≡ Some n → ⊥
none-at [] n place none at = absurd (cc)
none-at (m ∷ numbers) n place none at = search (rules, (none-at numbers n))
