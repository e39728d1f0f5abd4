use Rattle.std.proofs.Common.{◌≡◌, ℕ, ◌+◌, ◌<◌, true, false, List, length, Option, refl, arith}
use Rattle.std.proofs.lemmas.Bool.{true≢false, false≢true}
use Rattle.std.specs.List.{list_any}
use Rattle.clickpull_c.specs.declared.values.CPacket.{CPacket}
use Rattle.clickpull_c.specs.Recording.{AddsLines, AddsSends, IsAdded, MayGoOn, added, full, at_end, bad_length, adds, lacks_length}
use Rattle.clickpull_c.specs.declared.statuses.TheConstants.{OK, FULL, AT_END, BAD_LENGTH}
use Rattle.clickpull_c.proofs.examples.record_examples.Goals as goal

-- a call that returns OK has added its lines
when-ok : {bytes before after : List ℕ} {count used used' lines lines' : ℕ} {moment : Option ℕ} → AddsLines bytes count moment before after used used' lines lines' OK → IsAdded bytes before after used used' × (lines' ≡ lines + count)
when-ok (added e may its counted) = (its, counted)
when-ok (full e may long same end lines) = absurd (omega (arith, e))
when-ok (at_end e may same end lines) = absurd (omega (arith, e))

-- a call that returns FULL had no room for lines that it might have added
when-full : {bytes before after : List ℕ} {count used used' lines lines' : ℕ} {moment : Option ℕ} → AddsLines bytes count moment before after used used' lines lines' FULL → MayGoOn lines count moment × (length before < used + length bytes)
when-full (added e may its counted) = absurd (omega (arith, e))
when-full (full e may long same end lines) = (may, long)
when-full (at_end e may same end lines) = absurd (omega (arith, e))

-- a call that returns AT_END might not add its lines
when-at-end : {bytes before after : List ℕ} {count used used' lines lines' : ℕ} {moment : Option ℕ} → AddsLines bytes count moment before after used used' lines lines' AT_END → MayGoOn lines count moment → ⊥
when-at-end (added e may its counted) = absurd (omega (arith, e))
when-at-end (full e may long same end lines) = absurd (omega (arith, e))
when-at-end (at_end e may same end lines) = may

-- a call that returns another status than BAD_LENGTH has packets with lengths, and one that returns it has one without
when-other : {packets : List CPacket} {before after : List ℕ} {used used' lines lines' status : ℕ} → AddsSends packets before after used used' lines lines' status → (status ≡ BAD_LENGTH → ⊥) → list_any lacks_length packets ≡ false
when-other (bad_length e lacks same end lines) not_bad = absurd (not_bad e)
when-other (adds fine its) not_bad = fine

when-bad : {packets : List CPacket} {before after : List ℕ} {used used' lines lines' : ℕ} → AddsSends packets before after used used' lines lines' BAD_LENGTH → list_any lacks_length packets ≡ true
when-bad (bad_length e lacks same end lines) = lacks
when-bad (adds fine (added e may its counted)) = absurd (omega (arith, e))
when-bad (adds fine (full e may long same end lines)) = absurd (omega (arith, e))
when-bad (adds fine (at_end e may same end lines)) = absurd (omega (arith, e))

pub returns-clause-adds : goal.returns-clause-adds
returns-clause-adds c = added refl (record { few = omega arith; early = tt }) (record { is = refl; end_is = refl; within = omega arith }) refl

pub returns-clause-not_unwritten : goal.returns-clause-not_unwritten
returns-clause-not_unwritten c = λ h. let is = (when-ok h).0.is in cc

pub returns-clause-not_uncounted : goal.returns-clause-not_uncounted
returns-clause-not_uncounted c = λ h. let counted = (when-ok h).1 in omega (arith, counted)

pub returns-clause-not_unused : goal.returns-clause-not_unused
returns-clause-not_unused c = λ h. let end = (when-ok h).0.end_is in omega (arith, end)

pub returns-clause-full : goal.returns-clause-full
returns-clause-full c = full refl (record { few = omega arith; early = tt }) (omega arith) refl refl refl

pub returns-clause-not_full : goal.returns-clause-not_full
returns-clause-not_full c = λ h. let long = (when-full h).1 in omega (arith, long)

pub returns-clause-late : goal.returns-clause-late
returns-clause-late c = at_end refl (λ may. let early = may.early in omega (arith, early)) refl refl refl

pub returns-clause-not_late : goal.returns-clause-not_late
returns-clause-not_late c = λ h. when-at-end h (record { few = omega arith; early = omega arith })

pub returns-clause-long : goal.returns-clause-long
returns-clause-long c = at_end refl (λ may. let few = may.few in omega (arith, few)) refl refl refl

pub returns-clause-not_long : goal.returns-clause-not_long
returns-clause-not_long c = λ h. when-at-end h (record { few = omega arith; early = tt })

pub returns-clause-not_full_first : goal.returns-clause-not_full_first
returns-clause-not_full_first c = λ h. let early = (when-full h).0.early in omega (arith, early)

pub returns-clause-no_length : goal.returns-clause-no_length
returns-clause-no_length c = bad_length refl refl refl refl refl

pub returns-clause-not_sent : goal.returns-clause-not_sent
returns-clause-not_sent c = λ h. true≢false (when-other h (λ e. omega (arith, e)))

pub returns-clause-not_at_end_first : goal.returns-clause-not_at_end_first
returns-clause-not_at_end_first c = λ h. true≢false (when-other h (λ e. omega (arith, e)))

pub returns-clause-not_without_length : goal.returns-clause-not_without_length
returns-clause-not_without_length c = λ h. false≢true (when-bad h)

pub returns-clause-full_below : goal.returns-clause-full_below
returns-clause-full_below c = λ room same. omega (arith, room)

pub returns-clause-not_full_at : goal.returns-clause-not_full_at
returns-clause-not_full_at c = λ finds. finds (omega arith) refl
