-- The senders of a router after more events.
use Rattle.std.proofs.Common.{◌≡◌, ℕ, ◌+◌, ◌<◌, ◌==◌, ◌&&◌, zero, suc, Bool, true, false, List, [], ◌∷◌, ◌++◌, length, map, set, Some, slice_get, get_or, refl, sym, ap, ap₂, ◌∙◌, subst, arith, rules}
use Rattle.std.specs.List.{AllByRecursion, list_any}
use Rattle.std.proofs.lemmas.List.{append-nil, length-append}
use Rattle.std.proofs.lemmas.List.Elements.{filter_map-append}
use Rattle.std.specs.Option.{option_map}
use Rattle.std.proofs.lemmas.Option.{slice_get-map, slice_get_read}
use Rattle.std.proofs.lemmas.Bool.Decides.{nat_tests}
use Rattle.clk_packet.specs.declared.packet.Packet.{Packet}
use Rattle.clk_packet.specs.declared.packet.Offered.{Offered}
use Rattle.clk_sched.specs.declared.visit.Visit.{Visit}
use Rattle.clk_tree.specs.declared.plan.parts.SenderSpec.{SenderSpec}
use Rattle.clk_packet.specs.Lists.{AreRising}
use Rattle.clk_tree.specs.PlanParts.{number_of}
use Rattle.clk_router.specs.declared.senders.Sender.{Sender}
use Rattle.clk_router.specs.declared.parts.Parts.{Parts}
use Rattle.clk_router.specs.Events.{Setup, Event, offered, pulled, number_from, numbers_of, sends_to, pulls_from}
use Rattle.clk_router.specs.inside.Parts.{sent_one_more, sender_number, sender_after, IsAt}
use Rattle.clk_router.proofs.Callers.Events.{pulls-add_none}

-- how many packets a sender has offered, with one of its own, of another, or with a pull
numbers-sent : (s : ℕ) (events : List Event) (p : Packet) (outcome : Offered) → (p.sender == s) ≡ true → length (numbers_of s (events ++ offered p outcome ∷ [])) ≡ length (numbers_of s events) + 1
numbers-sent s events p outcome e = rw (filter_map-append (number_from s) events (offered p outcome ∷ []), e, length-append) refl

numbers-other : (s : ℕ) (events : List Event) (p : Packet) (outcome : Offered) → (p.sender == s) ≡ false → length (numbers_of s (events ++ offered p outcome ∷ [])) ≡ length (numbers_of s events)
numbers-other s events p outcome e = rw (filter_map-append (number_from s) events (offered p outcome ∷ []), e, append-nil) refl

numbers-pulled : (s : ℕ) (events : List Event) (d moment : ℕ) (visits : List Visit) → length (numbers_of s (events ++ pulled d moment visits ∷ [])) ≡ length (numbers_of s events)
numbers-pulled s events d moment visits = ap length (filter_map-append (number_from s) events (pulled d moment visits ∷ []) ∙ append-nil (numbers_of s events))

-- a sender that has sent so many
abbrev has : SenderSpec → ℕ → Sender
has spec n = record { number = spec.number; queue = spec.queue; sent = n }

-- a sender after a pull, after an offer of another, and after one of its own
pub sender-pulled : (events : List Event) (d moment : ℕ) (visits : List Visit) (spec : SenderSpec) → sender_after (events ++ pulled d moment visits ∷ []) spec ≡ sender_after events spec
sender-pulled events d moment visits spec = ap (has spec) (numbers-pulled spec.number events d moment visits)

sender-other : (events : List Event) (p : Packet) (outcome : Offered) (spec : SenderSpec) → (p.sender == spec.number) ≡ false → sender_after (events ++ offered p outcome ∷ []) spec ≡ sender_after events spec
sender-other events p outcome spec e = ap (has spec) (numbers-other spec.number events p outcome e)

sender-own : (events : List Event) (p : Packet) (outcome : Offered) (spec : SenderSpec) → (p.sender == spec.number) ≡ true
    → sender_after (events ++ offered p outcome ∷ []) spec ≡ sent_one_more (sender_after events spec)
sender-own events p outcome spec e = ap (has spec) (numbers-sent spec.number events p outcome e)

pub senders-pulled : (events : List Event) (d moment : ℕ) (visits : List Visit) (specs : List SenderSpec) → map (sender_after events) specs ≡ map (sender_after (events ++ pulled d moment visits ∷ [])) specs
senders-pulled events d moment visits [] = refl
senders-pulled events d moment visits (spec ∷ specs) = ap₂ (λ (s : Sender) ss. s ∷ ss) (sym (sender-pulled events d moment visits spec)) (senders-pulled events d moment visits specs)

-- and after pulls one tick apart
pub senders-closed : (events : List Event) (d t : ℕ) (more : List (List Visit)) (specs : List SenderSpec) → map (sender_after events) specs ≡ map (sender_after (events ++ pulls_from d t more)) specs
senders-closed events d t more specs = search (rules, pulls-add_none)

-- senders of greater numbers are others
senders-other : (events : List Event) (p : Packet) (outcome : Offered) (specs : List SenderSpec) → AllByRecursion (λ m. p.sender < m) (map number_of specs)
    → map (sender_after events) specs ≡ map (sender_after (events ++ offered p outcome ∷ [])) specs
senders-other events p outcome [] greater = refl
senders-other events p outcome (spec ∷ specs) greater =
    let above = greater.0 in
    let other : (p.sender == spec.number) ≡ false = grind (arith, nat_tests) in
    ap₂ (λ (s : Sender) ss. s ∷ ss) (sym (sender-other events p outcome spec other)) (senders-other events p outcome specs greater.1)

-- what holds of each number holds of the one at a place
at-place : (P : ℕ → Type 0) (specs : List SenderSpec) (i : ℕ) (spec : SenderSpec) → AllByRecursion P (map number_of specs) → slice_get specs i ≡ Some spec → P spec.number
at-place P [] i spec all e = absurd (cc)
at-place P (s ∷ specs) zero spec all e = let same : s ≡ spec = cc in subst (λ (t : SenderSpec). P t.number) same all.0
at-place P (s ∷ specs) (suc i) spec all e = at-place P specs i spec all.1 e

-- the senders after an offer of the one at a place
pub senders-sent : (events : List Event) (p : Packet) (outcome : Offered) (specs : List SenderSpec) (i : ℕ) (spec : SenderSpec) → AreRising (map number_of specs) → slice_get specs i ≡ Some spec
    → p.sender ≡ spec.number → set (map (sender_after events) specs) i (sent_one_more (sender_after events spec)) ≡ map (sender_after (events ++ offered p outcome ∷ [])) specs
senders-sent events p outcome [] i spec rising e theirs = absurd (cc)
senders-sent events p outcome (s ∷ specs) zero spec rising e theirs =
    let same : s ≡ spec = cc in
    let mine : (p.sender == spec.number) ≡ true = grind (arith, nat_tests) in
    let greater : AllByRecursion (λ m. p.sender < m) (map number_of specs) = subst (λ n. AllByRecursion (λ m. n < m) (map number_of specs)) (ap (λ (t : SenderSpec). t.number) same ∙ sym theirs) rising.0 in
    ap₂ (λ (t : Sender) ss. t ∷ ss) (sym (sender-own events p outcome spec mine) ∙ ap (sender_after (events ++ offered p outcome ∷ [])) (sym same))
    (senders-other events p outcome specs greater)
senders-sent events p outcome (s ∷ specs) (suc i) spec rising e theirs =
    let below : s.number < spec.number = at-place (λ m. s.number < m) specs i spec rising.0 e in
    let other : (p.sender == s.number) ≡ false = grind (arith, nat_tests) in
    ap₂ (λ (t : Sender) ss. t ∷ ss) (sym (sender-other events p outcome s other)) (senders-sent events p outcome specs i spec rising.1 e theirs)

-- whether a sender of this number is one that passes a test
abbrev one_passes : (SenderSpec → Bool) → List SenderSpec → ℕ → Bool
one_passes test specs n = list_any (λ (s : SenderSpec). (s.number == n) && test s) specs

-- no sender of greater number is this one
none-passes : (test : SenderSpec → Bool) (n : ℕ) (specs : List SenderSpec) → AllByRecursion (λ m. n < m) (map number_of specs) → one_passes test specs n ≡ false
none-passes test n [] greater = refl
none-passes test n (s ∷ specs) greater = search (rules, (none-passes test n specs greater.1))

-- a test of a sender is that of its own spec alone
pub passes-its : (test : SenderSpec → Bool) (specs : List SenderSpec) (i : ℕ) (spec : SenderSpec) → AreRising (map number_of specs) → slice_get specs i ≡ Some spec → one_passes test specs spec.number ≡ test spec
passes-its test [] i spec rising e = absurd (cc)
passes-its test (s ∷ specs) zero spec rising e = search (rules, none-passes)
passes-its test (s ∷ specs) (suc i) spec rising e =
    let below : s.number < spec.number = at-place (λ m. s.number < m) specs i spec rising.0 e in
    let other : (s.number == spec.number) ≡ false = grind (arith, nat_tests) in
    rw other (passes-its test specs i spec rising.1 e)

-- a sender sends to its own queue alone
pub sends-its : (q : ℕ) (specs : List SenderSpec) (i : ℕ) (spec : SenderSpec) → AreRising (map number_of specs) → slice_get specs i ≡ Some spec → sends_to specs spec.number q ≡ (spec.queue == q)
sends-its q specs i spec rising e = passes-its (λ (s : SenderSpec). s.queue == q) specs i spec rising e

-- the numbers of the senders
map-numbers : (events : List Event) (specs : List SenderSpec) → map sender_number (map (sender_after events) specs) ≡ map number_of specs
map-numbers events [] = refl
map-numbers events (spec ∷ specs) = ap (λ l. spec.number ∷ l) (map-numbers events specs)

pub alike-its : (setup : Setup) (events : List Event) (parts : Parts) → IsAt setup events parts → map sender_number parts.senders.items ≡ parts.numbers.items
alike-its setup events parts at = ap (map sender_number) at.senders ∙ map-numbers events setup.senders ∙ sym at.numbers

-- senders and numbers that are alike: as many, and each of the number of the other
number-alike : (senders : List Sender) (i : ℕ) (s : Sender) → slice_get senders i ≡ Some s → slice_get (map sender_number senders) i ≡ Some s.number
number-alike senders i s here = slice_get-map sender_number senders i ∙ ap (option_map sender_number) here

-- a sender, and its number at the same place
pub record IsSenderAt (senders : List Sender) (numbers : List ℕ) (i : ℕ) (s : Sender) : Type 0 where
  pub here : slice_get senders i ≡ Some s
  pub number : slice_get numbers i ≡ Some s.number

pub sender-at : (senders : List Sender) (numbers : List ℕ) (i : ℕ) (s : Sender) → map sender_number senders ≡ numbers → i < length senders → s ≡ get_or senders i s → IsSenderAt senders numbers i s
sender-at senders numbers i s alike within is = search (rules, slice_get_read, number-alike)

-- the sender at a place, as the setup has it
pub record IsSpecAt (events : List Event) (specs : List SenderSpec) (i : ℕ) (s : Sender) : Type 0 where
  pub spec : SenderSpec
  pub here : slice_get specs i ≡ Some spec
  pub is : s ≡ sender_after events spec

pub spec-at : (events : List Event) (specs : List SenderSpec) (i : ℕ) (s : Sender) → slice_get (map (sender_after events) specs) i ≡ Some s → IsSpecAt events specs i s
spec-at events [] i s e = absurd (cc)
spec-at events (spec ∷ specs) zero s e = record { spec = spec; here = refl; is = cc }
spec-at events (spec ∷ specs) (suc i) s e = search (rules, (spec-at events specs i s e))
