-- What the tap keeps as it pulls and gathers.
use Rattle.std.proofs.Common.{◌≡◌, ℕ, ◌+◌, ◌<◌, ◌≤◌, true, false, List, [], ◌∷◌, ◌++◌, length, Option, MatchOption, sym, ◌∙◌, subst, refl, arith, rules}
use Rattle.std.proofs.lemmas.Grind.{common_steps}
use Rattle.std.proofs.lemmas.Bool.Decides.{nat_tests}
use Rattle.std.specs.List.{cons_option}
use Rattle.std.proofs.lemmas.List.{length-append}
use Rattle.crossbeam_queue.specs.Fifo.{Held}
use Rattle.clk_packet.specs.declared.packet.Packet.{Packet}
use Rattle.clk_ruled.specs.declared.view.QueueSetup.{QueueSetup}
use Rattle.clk_ruled.specs.declared.view.Gathered.{Gathered}
use Rattle.clk_ruled.specs.declared.view.View.{View}
use Rattle.clk_packet.specs.Lists.{of_sender, In, stands_in, are_distinct, AreRising}
use Rattle.clk_ruled.specs.PacketLists.{packet_numbers}
use Rattle.clk_ruled.specs.Rooms.{rooms_in_all}
use Rattle.clk_ruled.specs.Queue.{AreOfSenders, accepted_in_all, evicted_in_all}
use Rattle.clk_ruled.specs.Rule.{Out, went_out, taken_in, Books, senders_of, gathered_senders, IsSound, AreGathered}
use Rattle.clk_ruled.specs.inside.Rule.{Knows, KnowsAfter, tap_view}
use Rattle.clk_ruled.specs.inside.Parts.{TapKeeps}
use Rattle.clk_ruled.proofs.SeatSteps.{room-known}
use Rattle.clk_ruled.proofs.Tally.{times, times_in_all, counted, senders_named, put_for, of-times, evicted-times, named-length, gone-length, unroomed, all-within}
use Rattle.clk_ruled.proofs.TapLemmas.{rising-taken, fewer-taken}

-- what a pull tells the tap
abbrev pub IsAfterPull : View → Option Packet → View → Type 0
IsAfterPull v got w = MatchOption got ((w ≡ v) × Held 0 (Knows v)) (λ p. (w ≡ tap_view v.setup (v.taken ++ p ∷ []) v.given v.gathered) × KnowsAfter w)

pub keeps-after : (v w : View) (got : Option Packet) → TapKeeps v → IsAfterPull v got w → TapKeeps w
keeps-after v w got k is = search rules

-- what the books say that the tap knows of
pub record TapKnows (v : View) (held : List Packet) : Type 0 where
  pub books : Books
  pub sound : IsSound books held
  pub setup : v.setup ≡ books.setup
  pub taken_is : v.taken ≡ taken_in books.gone
  pub gathered : AreGathered books v.given v.gathered

pub knows-held : (v : View) (held : List Packet) → TapKeeps v → Knows v held → TapKnows v held
knows-held v held k knows = search rules

pub tap-knows : (v : View) (k : TapKeeps v) → TapKnows v k.knows.0
tap-knows v k = search rules

-- What was taken is within all that came.
pub taken-within : (v : View) → TapKeeps v → length v.taken ≤ rooms_in_all v.setup.rooms
taken-within v k =
    let known = tap-knows v k in let b = known.books in
    let all = all-within b.setup.rooms b.all known.sound.senders_rise known.sound.room in
    search (rules, fewer-taken)

-- Of each sender the numbers that were taken rise.
pub taken-rises : (v : View) → TapKeeps v → (s : ℕ) → AreRising (packet_numbers (of_sender s v.taken))
taken-rises v k s =
    let known = tap-knows v k in subst (λ l. AreRising (packet_numbers (of_sender s l))) (sym known.taken_is) (rising-taken s known.books.gone k.knows.0 (subst (λ l. AreRising (packet_numbers (of_sender s l))) known.sound.order (known.sound.rises s)))

-- Each packet that was taken is of one of the senders.
pub in-all : (p : Packet) (gone : List Out) (held : List Packet) → In p (taken_in gone) → In p (went_out gone ++ held)
in-all p [] held h = absurd h
in-all p (o ∷ gone) held h = search (rules, (in-all p gone held))

in-named : (p : Packet) (packets : List Packet) → In p packets → 0 < times p.sender (senders_named packets)
in-named p [] h = absurd h
in-named p (q ∷ packets) h = search (rules, (in-named p packets))

pub taken-known : (v : View) → TapKeeps v → AreOfSenders v.setup v.taken
taken-known v k p h =
    let known = tap-knows v k in let b = known.books in
    let came : In p b.all = subst (In p) (sym known.sound.order) (in-all p b.gone k.knows.0 (subst (In p) known.taken_is h)) in
    let some = in-named p b.all came in let count = of-times p.sender b.all in let room = known.sound.room p.sender in
    subst (λ (y : QueueSetup). stands_in p.sender (senders_of y) ≡ true) (sym known.setup) (omega (arith, room-known))

-- What the gathered seats' lists have in all.
gathered-apart : (b : Books) (given : List ℕ) (gathered : List Gathered) → AreGathered b given gathered → are_distinct (gathered_senders gathered) ≡ true
gathered-apart b given [] h = refl
gathered-apart b given (g ∷ gathered) h = search (rules, (gathered-apart b given gathered h.2))

accepted-counted : (b : Books) (given : List ℕ) (gathered : List Gathered) → AreGathered b given gathered → accepted_in_all gathered ≡ times_in_all (gathered_senders gathered) (senders_named b.all)
accepted-counted b given [] h = refl
accepted-counted b given (g ∷ gathered) h = search (rules, of-times, (accepted-counted b given gathered h.2))

evicted-counted : (b : Books) (given : List ℕ) (gathered : List Gathered) → AreGathered b given gathered → evicted_in_all gathered ≡ times_in_all (gathered_senders gathered) (put_for b.gone)
evicted-counted b given [] h = refl
evicted-counted b given (g ∷ gathered) h = search (rules, evicted-times, (evicted-counted b given gathered h.2))

-- the seat of each sender was gathered
abbrev pub EachGathered : View → Type 0
EachGathered v = (s : ℕ) → stands_in s (senders_of v.setup) ≡ true → stands_in s (gathered_senders v.gathered) ≡ true

-- Where all seats were gathered, what the queue took was put out, or taken, or is held.
taken-balances : (v : View) (held : List Packet) → TapKnows v held → EachGathered v
    → length v.taken + evicted_in_all v.gathered + length held ≡ accepted_in_all v.gathered
taken-balances v held known all =
    let b = known.books in let sound = known.sound in let senders : List ℕ = gathered_senders v.gathered in
    let no_sender : (s : ℕ) → stands_in s senders ≡ false → stands_in s (senders_of b.setup) ≡ false = search rules in
    let apart = gathered-apart b v.given v.gathered known.gathered in
    let came = counted senders (senders_named b.all) apart (λ s e. sym (of-times s b.all) ∙ unroomed b.setup.rooms s (length (of_sender s b.all)) (sound.room s) (no_sender s e)) in
    search (rules, counted, evicted-times, accepted-counted, evicted-counted, length-append, named-length, gone-length)

pub taken-fewer : (v : View) → TapKeeps v → EachGathered v → length v.taken + evicted_in_all v.gathered ≤ accepted_in_all v.gathered
taken-fewer v k all = let same = taken-balances v k.knows.0 (tap-knows v k) all in omega (arith, same)

pub taken-all : (v : View) → TapKeeps v → Held 0 (Knows v) → EachGathered v → length v.taken + evicted_in_all v.gathered ≡ accepted_in_all v.gathered
taken-all v k held all = search (rules, (taken-balances v held.0 (knows-held v held.0 k held.2) all))

-- A list that has room for all that may be pulled has room for what a pull gave.
pub room-after : (v w : View) (got : Option Packet) (kept : List Packet) (room : ℕ) → TapKeeps v → IsAfterPull v got w → kept ≡ v.taken → rooms_in_all v.setup.rooms ≤ room
    → length kept + length (cons_option got []) ≤ room
room-after v w got kept room k is same fits = grind (arith, common_steps, nat_tests, taken-within)
