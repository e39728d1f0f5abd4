-- Each kind of step keeps the rule of the queue.
use Rattle.std.proofs.Common.{◌≡◌, ◌≢◌, ℕ, ◌<◌, ◌≤◌, ◌==◌, Bool, true, false, true≢false, List, [], ◌∷◌, ◌++◌, length, set, refl, sym, ap, ◌∙◌, arith, if◌then◌else◌, rules}
use Rattle.std.proofs.lemmas.Grind.{common_steps}
use Rattle.std.proofs.lemmas.List.{append-nil}
use mathlib.Core.Option.{Option, some, none}
use lib.ListN.{get_elem?}
use Rattle.crossbeam_queue.specs.Fifo.{Pushes, Pops, PopsFrom, Forks, Merges, Learns}
use Rattle.crossbeam_queue.proofs.Lists.{at_set}
use Rattle.clk_packet.specs.declared.packet.Packet.{Packet}
use Rattle.clk_packet.specs.declared.packet.Kind.TheVariants.{FrontDrop}
use Rattle.clk_ruled.specs.declared.view.QueueSetup.{QueueSetup}
use Rattle.clk_ruled.specs.declared.view.Gathered.{Gathered}
use Rattle.clk_ruled.specs.declared.view.View.{View}
use Rattle.clk_packet.specs.Lists.{stands_in, AreRising}
use Rattle.clk_ruled.specs.PacketLists.{packet_numbers}
use Rattle.clk_ruled.specs.Rooms.{room_of}
use Rattle.clk_ruled.specs.Rule.{Out, to_puller, put_out, went_out, Books, senders_of, gathered_senders, IsSound, IsNew, AreGathered, FitsSeat, FitsTap, Fits, Keeps, gathered_seat}
use Rattle.clk_ruled.specs.inside.Rule.{Knows, KnowsAfter, spent_view, retired_view, seat_view, tap_view}
use Rattle.clk_ruled.proofs.ListLemmas.{of-own, went-more, taken-more, evicted-own, evicted-other, evicted-pulled, has-not}
use Rattle.clk_ruled.proofs.Changes.{All, all-set, all-snoc, IsSame, new-kept, gathered-kept, others-kept}

-- What a seat has to know to have its packet accepted: the queue takes it behind all that it took from this sender.
pub record MayOffer (v : View) (p : Packet) : Type 0 where
  pub sits : v.sits ≡ true
  pub own : p.sender ≡ v.sender
  pub room : length v.accepted < room_of v.setup.rooms v.sender
  pub rises : AreRising (packet_numbers (v.accepted ++ p ∷ []))

abbrev with_packet : Books → Packet → Books
with_packet b p = record { setup = b.setup; all = b.all ++ p ∷ []; gone = b.gone; seat = b.seat; tap = b.tap }

accepted-sound : (b : Books) (v : View) (pass : ℕ) (p : Packet) (items : List Packet) → MayOffer v p → FitsSeat b pass v → length items < b.setup.capacity → IsSound b items → IsSound (with_packet b p) (items ++ p ∷ [])
accepted-sound b v pass p items may f room h = grind (arith, common_steps)

same-accepted : (b : Books) (p : Packet) (s : ℕ) → p.sender ≡ s → (t : ℕ) → t ≢ s → IsSame b (with_packet b p) t
same-accepted b p s own t other = grind (arith, common_steps)

pub accepts : (n pass : ℕ) (v : View) (p : Packet) → MayOffer v p → n ≤ v.setup.capacity → Pushes Keeps n pass v p (λ w. w ≡ seat_view v.setup v.sender (v.accepted ++ p ∷ []) v.evicted)
accepts n pass v p may within items views room h at =
    let b : Books = h.0 in let sound : IsSound b items = h.1 in let f : FitsSeat b pass v = (h.2 pass v at).0 may.sits in let own : p.sender ≡ v.sender = may.own in
    let w : View = seat_view v.setup v.sender (v.accepted ++ p ∷ []) v.evicted in
    let space : length items < b.setup.capacity = search rules in
    let mine : FitsSeat (with_packet b p) pass w = search (rules, of-own) in (
      w,
      (
        with_packet b p,
        accepted-sound b v pass p items may f space sound,
        all-set (Fits b) (Fits (with_packet b p)) views pass w h.2 ((λ _. mine), λ e. absurd (true≢false (sym e)))
            (search (rules, others-kept, same-accepted)),
      ),
      refl,
    )

-- A packet goes out.
abbrev with_out : Books → Out → Books
with_out b o = record { setup = b.setup; all = b.all; gone = b.gone ++ o ∷ []; seat = b.seat; tap = b.tap }

front-out : (b : Books) (o : Out) (p : Packet) (items : List Packet) → went_out (o ∷ []) ≡ p ∷ [] → b.all ≡ went_out b.gone ++ p ∷ items → b.all ≡ went_out (b.gone ++ o ∷ []) ++ items
front-out b o p items one order = grind (arith, common_steps, went-more)

-- what a seat has to know to put a packet out
pub record MayEvict (v : View) : Type 0 where
  pub sits : v.sits ≡ true
  pub front_drop : v.setup.kind ≡ FrontDrop
  pub known : stands_in v.sender (senders_of v.setup) ≡ true

evicted-sound : (b : Books) (s : ℕ) (p : Packet) (items : List Packet) → b.setup.kind ≡ FrontDrop → stands_in s (senders_of b.setup) ≡ true → IsSound b (p ∷ items) → IsSound (with_out b (put_out s p)) items
evicted-sound b s p items front has h = search (rules, front-out, evicted-other)

pub evicts : (n pass : ℕ) (v : View) → MayEvict v → PopsFrom Keeps n pass v (λ p w. (w ≡ seat_view v.setup v.sender v.accepted (v.evicted ++ p ∷ [])) × KnowsAfter w)
evicts n pass v may p items views room h at =
    let b : Books = h.0 in let f : FitsSeat b pass v = (h.2 pass v at).0 may.sits in
    let w : View = seat_view v.setup v.sender v.accepted (v.evicted ++ p ∷ []) in
    let c : Books = with_out b (put_out v.sender p) in
    let sound : IsSound c items = evicted-sound b v.sender p items (ap (λ (y : QueueSetup). y.kind) (sym f.setup) ∙ may.front_drop) (search rules) h.1 in
    let mine : FitsSeat c pass w = search (rules, evicted-own) in
    let fits : Fits c pass w = ((λ _. mine), λ e. absurd (true≢false (sym e))) in (
      w,
      (
        c,
        sound,
        all-set (Fits b) (Fits c) views pass w h.2 fits
            (others-kept b c pass v.sender f.seat refl refl (search (rules, taken-more, append-nil))
            (search (rules, evicted-other))),
      ),
      (refl, (items, (c, pass, sound, fits))),
    )

pulled-sound : (b : Books) (p : Packet) (items : List Packet) → IsSound b (p ∷ items) → IsSound (with_out b (to_puller p)) items
pulled-sound b p items h = search (rules, front-out, evicted-pulled)

pub pulls : (pass : ℕ) (v : View) → v.taps ≡ true → Pops Keeps pass v (λ p w. (w ≡ tap_view v.setup (v.taken ++ p ∷ []) v.given v.gathered) × KnowsAfter w)
pulls pass v taps p items views h at =
    let b : Books = h.0 in let f : FitsTap b pass v = (h.2 pass v at).1 taps in
    let w : View = tap_view v.setup (v.taken ++ p ∷ []) v.given v.gathered in
    let c : Books = with_out b (to_puller p) in
    let same : (t : ℕ) → IsSame b c t = search (rules, evicted-pulled) in
    let sound : IsSound c items = pulled-sound b p items h.1 in
    let mine : FitsTap c pass w = search (rules, taken-more, new-kept, gathered-kept) in
    let fits : Fits c pass w = ((λ e. absurd (true≢false (sym e))), λ _. mine) in (
      w,
      (
        c,
        sound,
        all-set (Fits b) (Fits c) views pass w h.2 fits
            (search rules),
      ),
      (refl, (items, (c, pass, sound, fits))),
    )

-- What is learnt is what one knows.
pub learns : (pass : ℕ) (v : View) → Learns Keeps pass v (Knows v)
learns pass v items views h at = (h.0, pass, h.1, h.2 pass v at)

-- A seat, and no seat, for a sender.
abbrev with_seat : Books → ℕ → Option ℕ → Books
with_seat b s pass = record { setup = b.setup; all = b.all; gone = b.gone; seat = λ t. if t == s then pass else b.seat t; tap = b.tap }

seat-own : (b : Books) (s : ℕ) (pass : Option ℕ) → (with_seat b s pass).seat s ≡ pass
seat-own b s pass = search rules

same-seated : (b : Books) (s t : ℕ) (pass : Option ℕ) → t ≢ s → IsSame b (with_seat b s pass) t
same-seated b s t pass other = search rules

seated-sound : (b : Books) (s : ℕ) (pass : Option ℕ) (items : List Packet) → IsSound b items → IsSound (with_seat b s pass) items
seated-sound b s pass items h = search rules

-- more senders have a seat
given-more : (b c : Books) (s : ℕ) (given : List ℕ) (gathered : List Gathered) → ((t : ℕ) → t ≢ s → IsSame b c t) → stands_in s given ≡ false → AreGathered b given gathered → AreGathered c (s ∷ given) gathered
given-more b c s given [] same new f = tt
given-more b c s given (g ∷ gathered) same new f = search (rules, (given-more b c s given gathered same new f.2))

pub seats : (pass : ℕ) (v : View) (s : ℕ) → v.taps ≡ true → stands_in s v.given ≡ false → Forks Keeps pass v (tap_view v.setup v.taken (s ∷ v.given) v.gathered) (seat_view v.setup s [] [])
seats pass v s taps new items views h at =
    let b : Books = h.0 in let f : FitsTap b pass v = (h.2 pass v at).1 taps in
    let left : View = tap_view v.setup v.taken (s ∷ v.given) v.gathered in let right : View = seat_view v.setup s [] [] in
    let vs : List View = set views pass left in
    let c : Books = with_seat b s (some (length vs)) in
    let fresh : IsNew b s = f.fresh s new in
    let same : (t : ℕ) → t ≢ s → IsSame b c t = λ t other. same-seated b s t (some (length vs)) other in
    let tap : FitsTap c pass left = search (rules, has-not, new-kept, given-more) in
    let seat : FitsSeat c (length vs) right = search rules in (
      c,
      seated-sound b s (some (length vs)) items h.1,
      all-snoc (Fits c) vs right
          (all-set (Fits b) (Fits c) views pass left h.2 ((λ e. absurd (true≢false (sym e))), λ _. tap)
          (search rules))
          ((λ _. seat), λ e. absurd (true≢false (sym e))),
    )

-- a sender that was gathered isn't one that has a seat
not-gathered : (b : Books) (pass s : ℕ) (given : List ℕ) (gathered : List Gathered) → b.seat s ≡ some pass → AreGathered b given gathered → stands_in s (gathered_senders gathered) ≡ false
not-gathered b pass s given [] mine f = refl
not-gathered b pass s given (g ∷ gathered) mine f = search (rules, (not-gathered b pass s given gathered mine f.2))

had-seat : (b : Books) (pass s : ℕ) (given : List ℕ) → b.seat s ≡ some pass → ((t : ℕ) → stands_in t given ≡ false → IsNew b t) → (y : Bool) → stands_in s given ≡ y → stands_in s given ≡ true
had-seat b pass s given mine fresh o e = search rules

emptied : (b : Books) (s t : ℕ) → b.seat t ≡ none → IsSame b (with_seat b s none) t
emptied b s t e = search rules

pub gathers : (pass : ℕ) (v : View) (other : ℕ) (w : View) → v.taps ≡ true → w.sits ≡ true
    → Merges Keeps pass v other w (tap_view v.setup v.taken v.given (gathered_seat w.sender w.accepted w.evicted ∷ v.gathered)) spent_view
gathers pass v other w taps sits items views h at two at' =
    let b : Books = h.0 in let f : FitsTap b pass v = (h.2 pass v at).1 taps in
    let both : View = tap_view v.setup v.taken v.given (gathered_seat w.sender w.accepted w.evicted ∷ v.gathered) in
    let was : get_elem? views other ≡ some w = search (rules, at_set) in
    let g : FitsSeat b other w = (h.2 other w was).0 sits in
    let c : Books = with_seat b w.sender none in
    let seatless : (t : ℕ) → b.seat t ≡ none → IsSame b c t = λ t e. emptied b w.sender t e in
    let mine : FitsTap c pass both = search (rules, new-kept, had-seat, seat-own, not-gathered, gathered-kept) in
    let Now : ℕ → View → Type 0 = λ j u. j ≢ other → Fits c j u in
    let now : All Now (set views pass both) = all-set (Fits b) Now views pass both h.2 (λ _. ((λ e. absurd (true≢false (sym e))), λ _. mine))
    (search rules) in (
      c,
      seated-sound b w.sender none items h.1,
      all-set Now (Fits c) (set views pass both) other spent_view now ((λ e. absurd (true≢false (sym e))), λ e. absurd (true≢false (sym e))) (λ j u away k. k away),
    )

-- A closed seat keeps a pass that neither sits nor taps.
pub retires : (pass : ℕ) (v : View) → Forks Keeps pass v v (retired_view v.setup)
retires pass v items views h at =
    let b : Books = h.0 in (
      b,
      h.1,
      all-snoc (Fits b) (set views pass v) (retired_view v.setup) (all-set (Fits b) (Fits b) views pass v h.2 (h.2 pass v at) (λ j u other g. g)) ((λ e. absurd (true≢false (sym e))), λ e. absurd (true≢false (sym e))),
    )
