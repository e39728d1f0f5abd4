-- One more offer, one more packet that a pull gave, and one more pull of a drain.
use Rattle.std.proofs.Common.{◌≡◌, ℕ, ◌+◌, ◌<◌, ◌≤◌, ◌==◌, suc, Bool, true, false, List, [], ◌∷◌, ◌++◌, length, take, drop, get_or, slice_set, Option, Some, None, refl, sym, ap, ap₂, ◌∙◌, subst, arith, length-append, append-nil}
use Rattle.std.proofs.lemmas.List.{drop-set-lt, length-take-le, take_more_set, take-append-le, take_all}
use Rattle.std.proofs.Math.Seq.{take-suc}
use Rattle.std.proofs.lemmas.Grind.{drop_more_same}
use Rattle.std.proofs.lemmas.Bool.Decides.{nat_tests}
use Rattle.std.specs.List.{zip}
use Rattle.clk_packet.specs.declared.packet.Packet.{Packet}
use Rattle.clk_router.specs.Course.{Course}
use Rattle.clickpull_c.specs.declared.values.CPacket.{CPacket}
use Rattle.clickpull_c.specs.declared.values.COffer.{COffer}
use Rattle.clickpull_c.specs.declared.values.COffered.{COffered}
use Rattle.clickpull_c.specs.declared.values.CDeparture.{CDeparture}
use Rattle.clickpull_c.specs.Values.{packet_in_c}
use Rattle.clk_router.specs.Chains.{IsChain}
use Rattle.clickpull_c.specs.Calls.{IsOffered, OffersOne, IsOfferedSoFar, GivesOne, EndsDrain, IsDrained, DrainPull, PullsNext, HasRoom, with_departure, departures_of}
use Rattle.clickpull_c.specs.inside.SoFar.{GaveSoFar, DrainedSoFar}
use Rattle.clk_router.proofs.Callers.Chains.{chain-more, zip-more}

-- the elements after a filled place are unchanged
others-more : {X : Type 0} (before filled : List X) (i : ℕ) (y : X) → drop i filled ≡ drop i before → drop (i + 1) (slice_set filled i y) ≡ drop (i + 1) before
others-more before filled i y same = drop-set-lt (i + 1) filled i y (omega arith) ∙ drop_more_same filled before i same

-- the items up to the next one
take-more : {X : Type 0} (xs : List X) (i : ℕ) (d : X) → i < length xs → take (i + 1) xs ≡ take i xs ++ get_or xs i d ∷ []
take-more xs i d low = let e : i + 1 ≡ suc i = omega arith in ap (λ n. take n xs) e ∙ take-suc xs i d low

pub gave-more : (old mid new : Course) (device moment : ℕ) (before filled : List CPacket) (given : ℕ) (y : CPacket) → length filled ≡ length before → given < length filled
    → GaveSoFar old mid device moment before filled given → GivesOne device moment mid y new → GaveSoFar old new device moment before (slice_set filled given y) (given + 1)
gave-more old mid new device moment before filled given y same low so_far one = record {
  within = omega arith;
  gave =
      subst (λ ps. IsChain (GivesOne device moment) old ps new) (sym (take_more_set filled given y low))
      (chain-more (GivesOne device moment) old mid new (take given filled) y so_far.gave one);
  others = others-more before filled given y so_far.others;
}

pub offered-more : (old mid new : Course) (offers : List COffer) (before filled : List COffered) (done : ℕ) (none : COffer) (y : COffered) → length filled ≡ length before → length offers ≤ length before
    → done < length offers → IsOfferedSoFar old mid offers before filled done → IsOffered mid new (get_or offers done none).sender (get_or offers done none).length y
    → IsOfferedSoFar old new offers before (slice_set filled done y) (done + 1)
offered-more old mid new offers before filled done none y same fits low so_far one =
    let o = get_or offers done none in
    let there : done < length filled = omega arith in
    let short : length (take done offers) ≡ done = length-take-le done offers (omega arith) in
    let long : length (take done filled) ≡ done = length-take-le done filled (omega arith) in
    let pairs : zip (take (done + 1) offers) (take (done + 1) (slice_set filled done y)) ≡ zip (take done offers) (take done filled) ++ (o, y) ∷ [] =
    ap₂ zip (take-more offers done none low) (take_more_set filled done y there) ∙ zip-more (take done offers) (take done filled) o y (short ∙ sym long) in
    record {
      within = omega arith;
      made = subst (λ ps. IsChain OffersOne old ps new) (sym pairs) (chain-more OffersOne old mid new (zip (take done offers) (take done filled)) (o, y) so_far.made one);
      others = others-more before filled done y so_far.others;
    }

-- what a pull gave stands before equal lists
on-top : (moment : ℕ) (got : Option Packet) (pull : DrainPull) (longer shorter : List CDeparture) → longer ≡ shorter ++ with_departure pull.moment pull.got [] → with_departure moment got longer ≡ with_departure moment got shorter ++ with_departure pull.moment pull.got []
on-top moment None pull longer shorter same = same
on-top moment (Some q) pull longer shorter same = ap (λ l. record { moment = moment; packet = packet_in_c q } ∷ l) same

-- what one more pull gave stands last
departures-more : (pulls : List DrainPull) (pull : DrainPull) → departures_of (pulls ++ pull ∷ []) ≡ departures_of pulls ++ with_departure pull.moment pull.got []
departures-more [] pull = refl
departures-more (p ∷ ps) pull = on-top p.moment p.got pull (departures_of (ps ++ pull ∷ [])) (departures_of ps) (departures-more ps pull)

-- one more pull has room where fewer packets were emitted so far than there are places
room-more : (places : ℕ) (pulls : List DrainPull) (pull : DrainPull) → HasRoom places pulls → length (departures_of pulls) < places → HasRoom places (pulls ++ pull ∷ [])
room-more places pulls pull room low made within =
    let longer = length-append pulls (pull ∷ []) in
    let up_to : made ≤ length pulls = omega (arith, longer) in
    subst (λ l. length (departures_of l) < places) (sym (take-append-le made pulls (pull ∷ []) up_to)) (by_test (made == length pulls) refl)
  where
    by_test : (b : Bool) → (made == length pulls) ≡ b → length (departures_of (take made pulls)) < places
    by_test true e =
        let all : length pulls ≤ made = grind (arith, nat_tests) in
        subst (λ l. length (departures_of l) < places) (sym (take_all made pulls all)) low
    by_test false e =
        let longer = length-append pulls (pull ∷ []) in
        let other : made < length pulls = grind (arith, nat_tests, longer) in
        room made other

drained-more : (old mid new : Course) (device : ℕ) (before filled filled' : List CDeparture) (made given given' : ℕ) (pull : DrainPull) → length filled ≡ length before → given < length filled
    → DrainedSoFar old mid device before filled made given → PullsNext device mid pull new → given' ≤ length before → take given' filled' ≡ take given filled ++ with_departure pull.moment pull.got [] → drop given' filled' ≡ drop given' before
    → DrainedSoFar old new device before filled' (made + 1) given'
drained-more old mid new device before filled filled' made given given' pull same low so_far one within gave others =
    let longer : length (so_far.pulls ++ pull ∷ []) ≡ made + 1 = length-append so_far.pulls (pull ∷ []) ∙ ap (λ n. n + 1) so_far.count in
    let came : length (take given filled) ≡ given = length-take-le given filled (omega arith) in
    let few : length (departures_of so_far.pulls) ≡ given = ap length (sym so_far.gave) ∙ came in
    record {
      pulls = so_far.pulls ++ pull ∷ [];
      chain = chain-more (PullsNext device) old mid new so_far.pulls pull so_far.chain one;
      count = longer;
      room = room-more (length before) so_far.pulls pull so_far.room (omega (arith, few));
      within = within;
      gave = gave ∙ ap (λ l. l ++ with_departure pull.moment pull.got []) so_far.gave ∙ sym (departures-more so_far.pulls pull);
      others = others;
    }

pub drained-none : (old mid new : Course) (device : ℕ) (before filled : List CDeparture) (made given moment : ℕ) → length filled ≡ length before → given < length filled
    → DrainedSoFar old mid device before filled made given → PullsNext device mid (record { moment = moment; got = None }) new → DrainedSoFar old new device before filled (made + 1) given
drained-none old mid new device before filled made given moment same low so_far one =
    drained-more old mid new device before filled filled made given given (record { moment = moment; got = None }) same low so_far one so_far.within (sym (append-nil (take given filled))) so_far.others

pub drained-some : (old mid new : Course) (device : ℕ) (before filled : List CDeparture) (made given moment : ℕ) (p : Packet) → length filled ≡ length before → given < length filled
    → DrainedSoFar old mid device before filled made given → PullsNext device mid (record { moment = moment; got = Some p }) new
    → DrainedSoFar old new device before (slice_set filled given (record { moment = moment; packet = packet_in_c p })) (made + 1) (given + 1)
drained-some old mid new device before filled made given moment p same low so_far one =
    let y : CDeparture = record { moment = moment; packet = packet_in_c p } in
    drained-more old mid new device before filled (slice_set filled given y) made given (given + 1) (record { moment = moment; got = Some p }) same low so_far one (omega arith) (take_more_set filled given y low)
    (others-more before filled given y so_far.others)

-- A drain that came so far ends so.
pub drained-to : (old new : Course) (device most : ℕ) (before filled : List CDeparture) (made given status : ℕ) → made ≤ most → DrainedSoFar old new device before filled made given
    → ((pulls : ℕ) → pulls ≡ made → EndsDrain new device (length before) most pulls given status) → IsDrained old new device most before filled given status
drained-to old new device most before filled made given status few so_far ends = record {
  pulls = so_far.pulls;
  made = so_far.chain;
  few = omega (arith, so_far.count, few);
  room = so_far.room;
  within = so_far.within;
  gave = so_far.gave;
  others = so_far.others;
  ends = ends (length so_far.pulls) so_far.count;
}
