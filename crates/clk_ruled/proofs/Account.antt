-- The rule of a shared queue gives its account.
use Rattle.std.proofs.Common.{◌≡◌, ℕ, ◌+◌, ◌≤◌, Bool, true, false, not, List, [], ◌∷◌, ◌++◌, length, filter, refl, sym, ap, ◌∙◌, subst, arith, rules}
use Rattle.std.proofs.lemmas.Grind.{common_steps}
use Rattle.std.proofs.lemmas.List.Elements.{filter-append}
use Rattle.std.specs.List.{flat_map, AllByRecursion}
use Rattle.clk_packet.specs.declared.packet.Packet.{Packet}
use Rattle.clk_packet.specs.Lists.{of_sender, In, stands_in}
use Rattle.clk_packet.proofs.Callers.Lists.{rising-distinct}
use Rattle.clk_ruled.specs.PacketLists.{is_packet, has_packet, without}
use Rattle.clk_ruled.specs.declared.view.Gathered.{Gathered}
use Rattle.clk_ruled.specs.Rule.{Out, to_puller, put_out, went_out, taken_in, evicted_by, Books, IsSound, AreGathered, FitsSeat, FitsTap, senders_of}
use Rattle.clk_ruled.specs.Account.{IsAccount}
use Rattle.clk_ruled.specs.Laws.{KeepsAccount}
use Rattle.clk_ruled.proofs.SeatSteps.{room-known}
use Rattle.clk_ruled.proofs.TapSteps.{in-all}
use Rattle.clk_ruled.proofs.Counts.{put_out_in, count, length-count, count-all, count-evicted}
use Rattle.clk_ruled.proofs.Members.{in-left, in-right, in-some, in-own, in-counts, has-none, has-some, once-each, each-once}

-- of a list of which none passes it all is kept
keep-held : (f : Packet → Bool) (s : ℕ) (held : List Packet) → ((p : Packet) → In p held → f p ≡ false) → filter (λ q. not (f q)) (of_sender s held) ≡ of_sender s held
keep-held f s [] stays = refl
keep-held f s (p ∷ held) stays = search (rules, (keep-held f s held))

-- Where just those that were put out pass the test, the others are those that were taken, and then those that are held.
keep-taken : (f : Packet → Bool) (s : ℕ) (gone : List Out) (held : List Packet) → ((p : Packet) → In p (taken_in gone) → f p ≡ false) → ((p : Packet) → In p (put_out_in gone) → f p ≡ true) → ((p : Packet) → In p held → f p ≡ false)
    → filter (λ q. not (f q)) (of_sender s (went_out gone ++ held)) ≡ of_sender s (taken_in gone) ++ of_sender s held
keep-taken f s [] held taken out kept = keep-held f s held kept
keep-taken f s (to_puller p ∷ gone) held taken out kept = search (rules, (keep-taken f s gone held))
keep-taken f s (put_out e p ∷ gone) held taken out kept = search (rules, (keep-taken f s gone held taken))

in-evicted : (s : ℕ) (p : Packet) (gone : List Out) → In p (evicted_by s gone) → In p (went_out gone)
in-evicted s p [] i = i
in-evicted s p (o ∷ gone) i = search (rules, (in-evicted s p gone))

-- a packet that the queue took is of one of its senders
some-long : (p : Packet) (l : List Packet) → In p l → 1 ≤ length l
some-long p [] i = absurd i
some-long p (q ∷ l) i = omega arith

is-of : (b : Books) (held : List Packet) → IsSound b held → (p : Packet) → In p b.all → stands_in p.sender (senders_of b.setup) ≡ true
is-of b held h p i = search (rules, (some-long p (of_sender p.sender b.all) (in-own p b.all i)), room-known)

abbrev pub evicted_in : Books → List Packet
evicted_in b = flat_map (λ s. evicted_by s b.gone) (senders_of b.setup)

-- Each packet that came was taken, was put out or is held, and only one of these, once.
shared-out : (b : Books) (held : List Packet) → IsSound b held → (p : Packet) → count (is_packet p) (taken_in b.gone) + count (is_packet p) (put_out_in b.gone) + count (is_packet p) held ≤ 1
shared-out b held h p = search (rules, (each-once b.all h.rises p), count-all)

-- A queue whose books are in order has an account.
pub account : (b : Books) (held : List Packet) → IsSound b held
    → IsAccount b.setup.kind b.setup.capacity (senders_of b.setup) (λ s. of_sender s b.all) (λ s. evicted_by s b.gone) (taken_in b.gone) held
account b held h =
    let all : (p : Packet) → In p (went_out b.gone ++ held) → In p b.all = λ p i. subst (In p) (sym h.order) i in
    let few : (p : Packet) → count (is_packet p) (taken_in b.gone) + count (is_packet p) (put_out_in b.gone) + count (is_packet p) held ≤ 1 = shared-out b held h in
    let out : (p : Packet) → count (is_packet p) (evicted_in b) ≡ count (is_packet p) (put_out_in b.gone) = search (rules, count-evicted, rising-distinct) in
    let is_of : (p : Packet) → In p b.all → stands_in p.sender (senders_of b.setup) ≡ true = is-of b held h in record {
      balances = λ s. ap (λ l. without (of_sender s l) (evicted_in b)) h.order
          ∙ keep-taken (has_packet (evicted_in b)) s b.gone held
          (search (rules, has-none, in-counts))
          (search (rules, has-some, in-counts))
          (search (rules, has-none, in-counts));
      is_last = λ s. (of_sender s (went_out b.gone), search (rules, filter-append));
      rises = h.rises;
      was_taken = search (rules, in-some, in-own, in-left, in-evicted);
      once = search (rules, once-each);
      gives_known = λ p i. is_of p (all p (in-all p b.gone held i));
      holds_known = search (rules, in-right);
      fits = h.fits;
      tail_drop = h.tail_drop;
    }

-- of a list of which all pass the test nothing is kept
drop-held : (f : Packet → Bool) (s : ℕ) (l : List Packet) → ((p : Packet) → In p l → f p ≡ true) → filter (λ q. not (f q)) (of_sender s l) ≡ []
drop-held f s [] passes = refl
drop-held f s (p ∷ l) passes = search (rules, (drop-held f s l))

-- Of what wasn't put out, the packets that weren't taken are those that are held.
pub left-held : (b : Books) (held : List Packet) → IsSound b held → (s : ℕ) → without (without (of_sender s b.all) (evicted_in b)) (taken_in b.gone) ≡ of_sender s held
left-held b held h s =
    let taken : List Packet = taken_in b.gone in
    ap (λ l. without l taken) ((account b held h).balances s)
    ∙ filter-append (λ p. not (has_packet taken p)) (of_sender s taken) (of_sender s held)
    ∙ (λ i. drop-held (has_packet taken) s taken (λ p j. has-some p taken (in-counts p taken j)) i ++ keep-held (has_packet taken) s held (search (rules, has-none, in-counts, shared-out)) i)

-- How many came: those that were put out, those that were taken, and those that are held.
pub all-counted : (b : Books) (held : List Packet) → IsSound b held → length b.all ≡ length (evicted_in b) + length (taken_in b.gone) + length held
all-counted b held h =
    let all = ap length h.order ∙ length-count (went_out b.gone ++ held) ∙ count-all (λ _. true) b.gone held in
    let out = length-count (evicted_in b) ∙ count-evicted (λ _. true) (senders_of b.setup) b.gone (rising-distinct (senders_of b.setup) h.senders_rise) h.known in
    omega (arith, length-count)

-- Where as many packets were taken and put out as came, none is held.
pub as-many : (b : Books) (held : List Packet) → IsSound b held → length b.all ≡ length (evicted_in b) + length (taken_in b.gone) → held ≡ []
as-many b held h e = grind (arith, common_steps, all-counted)

-- The account between any two steps, with the lists of all views.
gathered-listed : (b : Books) (given : List ℕ) (gathered : List Gathered) → AreGathered b given gathered
    → AllByRecursion (λ (g : Gathered). (g.accepted ≡ of_sender g.sender b.all) × (g.evicted ≡ evicted_by g.sender b.gone)) gathered
gathered-listed b given [] h = tt
gathered-listed b given (g ∷ gathered) h = ((h.0.accepted, h.0.evicted), gathered-listed b given gathered h.2)

pub account-kept : KeepsAccount
account-kept held views h = let b : Books = h.0 in record {
  setup = b.setup;
  accepted = λ s. of_sender s b.all;
  evicted = λ s. evicted_by s b.gone;
  taken = taken_in b.gone;
  account = account b held h.1;
  seats = λ pass v at sits. let fits : FitsSeat b pass v = (h.2 pass v at).0 sits in search rules;
  taps = λ pass v at taps. let fits : FitsTap b pass v = (h.2 pass v at).1 taps in search (rules, gathered-listed);
}
