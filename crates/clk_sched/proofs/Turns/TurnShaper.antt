-- The turn of a Shaper.
use Rattle.std.proofs.Common.{◌≡◌, ◌≢◌, ℕ, suc, ◌+◌, ◌<◌, ◌≤◌, ◌-◌, Bool, true, false, if◌then◌else◌, List, [], ◌∷◌, ◌++◌, length, drop, slice_get, Option, Some, None, IfSome, IsSome, is_some, MatchBool, refl, sym, ap, ◌∙◌, subst, arith, rules}
use Rattle.std.proofs.lemmas.Bool.{false≢true}
use Rattle.std.proofs.lemmas.Option.{slice_get_within}
use Rattle.clk_packet.specs.declared.packet.Packet.{Packet}
use Rattle.clk_sched.specs.declared.visit.Visit.{Visit}
use Rattle.clk_sched.specs.declared.session.inputs.Inputs.{Inputs}
use Rattle.clk_sched.specs.declared.session.nodes.Nodes.{Nodes}
use Rattle.clk_sched.specs.declared.session.state.State.{State}
use Rattle.clk_sched.specs.declared.session.state.State.TheVariants.{Shaper}
use Rattle.clk_sched.specs.declared.session.shaper.Bucket.{Bucket}
use Rattle.clk_packet.specs.Scheduler.{Scheduler, shaper}
use Rattle.clk_sched.specs.Turns.{Turn, AsksInOrder, giver}
use Rattle.clk_sched.specs.Log.{asking}
use Rattle.clk_sched.specs.inside.Holds.Shaper.{AreBefore, HoldsBucket, IsTaken, IsGivenBack, Tells, tokens_at, has_room}
use Rattle.clk_sched.specs.inside.Pulling.{AsksAll, added, now_of, as_turn, with_turn, asked_in_order, CanPull, Keeps, TakesTurn}
use Rattle.clk_sched.specs.Answers.{Answers}
use Rattle.clk_sched.specs.inside.Places.{edges_of, edges_at, input_at, queue_asked}
use Rattle.clk_sched.specs.inside.Turning.{with_state, HasAsked, WasPulled}
use Rattle.clk_sched.specs.inside.Tokens.{TakesToken, GivesBack}
use Rattle.clk_sched.proofs.Nodes.Asking.{asks-none, added-none, keeps-none, keeps-more, keeps-ahead}
use Rattle.clk_sched.proofs.Nodes.Placed.{IsPutIn, set-ahead, fit-set, bucket-same, some-same, is-put, still-put, pulls-put, pulls-later, fits-there, fits-each, can-put, keeps-from, keeps-put, state-there}
use Rattle.clk_sched.proofs.Classes.Bucket.{bucket-none, bucket-taken}
use Rattle.clk_sched.proofs.Nodes.InOrder.{IsWithin, packet_of, HasTurnedBy, turned-in-order, in_order-giver, with_turn-given, after-own}
use Rattle.clk_sched.proofs.Nodes.Ordered.{IsOrderAt, can-ask, inputs-asked, keeps-asked, row-order}

-- by what a Shaper holds, a scheduler of no other class has a turn
pub shaper-alone : (a b : Nodes) (x : ℕ) (s : Bucket) (now : State) (got : Option Packet) → ((rate burst : ℕ) → TakesTurn a b x (shaper rate burst) (Shaper s) now got) → (class : Scheduler) → TakesTurn a b x class (Shaper s) now got
shaper-alone a b x s now got h (shaper rate burst) row history ready holds = h rate burst row history ready holds
shaper-alone a b x s now got h class row history ready holds = absurd holds

-- what is asked with a token, and without one
abbrev pub asked_by : Bool → List ℕ
asked_by token = if token then 0 ∷ [] else []

-- a node has an input, if it is in the table
abbrev pub HasInput : List Inputs → ℕ → Type 0
HasInput table x = IfSome (slice_get table x) (λ p. 1 ≤ length p.each.items)

pub shaper-asks : (table : List Inputs) (x : ℕ) (token : Bool) → HasInput table x → IsOrderAt table x (asked_by token)
shaper-asks table x token some p e = search rules

-- What it takes to ask its input, and what stays.
pub can-look : (a : Nodes) (x : ℕ) → CanPull a x (edges_of a.inputs.items x) → HasInput a.inputs.items x → CanPull a x (edges_at a.inputs.items x 0)
can-look a x can some =
    let all = can-ask a x (0 ∷ []) can (shaper-asks a.inputs.items x true some) in
    record {
      wired = all.wired;
      fit = all.fit;
      there = all.there;
      room = let r = all.room in omega arith;
      moment = all.moment;
    }

pub there-look : (a : Nodes) (x : ℕ) → CanPull a x (edges_of a.inputs.items x) → HasInput a.inputs.items x → IsSome (input_at a.inputs.items x 0)
there-look a x can some = (inputs-asked a.inputs.items x (0 ∷ []) can.there (shaper-asks a.inputs.items x true some)).0

pub keeps-look : {f : ℕ} (a b : Nodes) (x : ℕ) → CanPull a x (edges_of a.inputs.items x) → HasInput a.inputs.items x → Keeps f a b (edges_at a.inputs.items x 0) → Keeps f a b (edges_of a.inputs.items x)
keeps-look a b x can some h = keeps-asked a b x (0 ∷ []) can (shaper-asks a.inputs.items x true some) (keeps-more a b _ _ h (omega arith))

-- what is held after a pull that passed a packet
abbrev pub IsTakenAt : Bucket → Bucket → ℕ → Type 0
IsTakenAt s z moment =
    (rate burst : ℕ) (turns : List Turn) (t : Turn) → HoldsBucket rate burst turns s → AreBefore moment turns → has_room rate burst moment turns ≡ true → t.moment ≡ moment → is_some (giver t.visits) ≡ true
    → HoldsBucket rate burst (t ∷ turns) z

pub taken-at : (s z : Bucket) (moment : ℕ) → IsTaken s z moment → IsTakenAt s z moment
taken-at s z moment h rate burst turns t holds before room at passed =
    bucket-taken rate burst turns t s z holds (subst (λ n. AreBefore n turns) (sym at) before) (subst (λ n. has_room rate burst n turns ≡ true) (sym at) room) passed h.rate_is h.burst_is (h.filled_is ∙ sym at)
    (subst (λ n. z.tokens ≡ tokens_at s n - 1) (sym at) (let e = h.tokens_is in omega (arith, e)))

-- what is held after a turn in which this was asked
abbrev pub HoldsThen : Nodes → ℕ → Bool → Option (ℕ × Packet) → Bucket → Bucket → Type 0
HoldsThen a x token r s z =
    (rate burst : ℕ) (turns : List Turn) → HoldsBucket rate burst turns s → AreBefore a.moment turns → HoldsBucket rate burst (with_turn a.moment (asked_in_order (now_of a) x (asked_by token) r) turns) z

pub shaper-taken : (a : Nodes) (x : ℕ) (r : Option (ℕ × Packet)) (s z : Bucket) → is_some r ≡ true → IsWithin (0 ∷ []) r → Tells s a.moment true → IsTakenAt s z a.moment → HoldsThen a x true r s z
shaper-taken a x None s z e l tells taken rate burst turns holds before = absurd (false≢true e)
shaper-taken a x (Some p) s z e l tells taken rate burst turns holds before =
    let own = asked_in_order (now_of a) x (0 ∷ []) (Some p) in
    let gives = in_order-giver (now_of a) x (0 ∷ []) (Some p) l in
    subst (λ ts. HoldsBucket rate burst ts z) (sym (with_turn-given a.moment own turns _ gives)) (taken rate burst turns (as_turn a.moment own) holds before (sym (tells rate burst turns holds before)) refl (ap is_some gives))

none-turn : (moment : ℕ) (own : List Visit) (rate burst : ℕ) (turns : List Turn) (s : Bucket) → giver own ≡ None → HoldsBucket rate burst turns s → HoldsBucket rate burst (with_turn moment own turns) s
none-turn moment own rate burst turns s e holds = search rules

pub shaper-none : (a : Nodes) (x : ℕ) (token : Bool) (s : Bucket) → HoldsThen a x token None s s
shaper-none a x token s rate burst turns holds before = none-turn a.moment (asked_in_order (now_of a) x (asked_by token) None) rate burst turns s (in_order-giver (now_of a) x (asked_by token) None tt) holds

pub shaper-turn : (a b : Nodes) (x : ℕ) (s z : Bucket) (token : Bool) (r : Option (ℕ × Packet)) (rate burst : ℕ) → x < length a.inputs.items → HasInput a.inputs.items x → Tells s a.moment token → IsWithin (asked_by token) r
    → AsksAll a b x (asked_by token) (asked_in_order (now_of a) x (asked_by token) r) → HoldsThen a x token r s z → TakesTurn a b x (shaper rate burst) (Shaper s) (Shaper z) (packet_of r)
shaper-turn a b x s z token r rate burst there some tells within asked follows row history ready holds =
    record {
      turned = by.turned;
      holds = subst (λ turns. HoldsBucket rate burst turns z) (sym (after-own a b history x own by.own_is)) (follows rate burst (history x) holds (ready.before x));
    }
  where
    own : List Visit
    own = asked_in_order (now_of a) x (asked_by token) r

    by : HasTurnedBy a b history x (shaper rate burst) row own (packet_of r)
    by = turned-in-order a b history x (shaper rate burst) row (asked_by token) r ready within asked (row-order a.inputs.items x row (asked_by token) there ready.stands (shaper-asks a.inputs.items x token some))
        (λ h. subst (λ b. AsksInOrder (asked_by b) own) (tells rate burst (history x) holds (ready.before x)) h)

-- Without a token nothing is asked.
pub shaper-without : (a : Nodes) (x : ℕ) (s : Bucket) (rate burst : ℕ) → x < length a.inputs.items → HasInput a.inputs.items x → Tells s a.moment false → TakesTurn a a x (shaper rate burst) (Shaper s) (Shaper s) None
shaper-without a x s rate burst there some tells = shaper-turn a a x s s false None rate burst there some tells tt (asks-none a x) (shaper-none a x false s)

-- With a token the input is asked, and what it gave is passed.
pub shaper-passes : (a b : Nodes) (x : ℕ) (s z : Bucket) (o : Option Packet) → is_some o ≡ true → x < length a.inputs.items → HasInput a.inputs.items x → Tells s a.moment true
    → AsksAll a b x (0 ∷ []) (asking a.pull a.moment x 0 o ∷ []) → IsTaken s z a.moment → (rate burst : ℕ) → TakesTurn a b x (shaper rate burst) (Shaper s) (Shaper z) o
shaper-passes a b x s z None e there some tells asked taken rate burst = absurd (false≢true e)
shaper-passes a b x s z (Some p) e there some tells asked taken rate burst =
    shaper-turn a b x s z true (Some (0, p)) rate burst there some tells (omega arith) asked (shaper-taken a x (Some (0, p)) s z refl (omega arith) tells (taken-at s z a.moment taken))

-- what is held after a turn at this moment that passed nothing
abbrev pub IsLeft : Bucket → Bucket → ℕ → Type 0
IsLeft s z moment = (rate burst : ℕ) (turns : List Turn) (t : Turn) → HoldsBucket rate burst turns s → AreBefore moment turns → t.moment ≡ moment → giver t.visits ≡ None → HoldsBucket rate burst (t ∷ turns) z

pub left-same : (s : Bucket) (moment : ℕ) → IsLeft s s moment
left-same s moment rate burst turns t holds before at none = bucket-none rate burst turns t s holds none

-- It may have given nothing.
pub shaper-vain : (a b : Nodes) (x : ℕ) (s z : Bucket) (o : Option Packet) → is_some o ≡ false → x < length a.inputs.items → HasInput a.inputs.items x → Tells s a.moment true
    → AsksAll a b x (0 ∷ []) (asking a.pull a.moment x 0 o ∷ []) → IsLeft s z a.moment → (rate burst : ℕ) → TakesTurn a b x (shaper rate burst) (Shaper s) (Shaper z) None
shaper-vain a b x s z (Some p) e there some tells asked left rate burst = absurd (false≢true (sym e))
shaper-vain a b x s z None e there some tells asked left rate burst =
    shaper-turn a b x s z true None rate burst there some tells tt asked
    (λ rate burst turns holds before. left rate burst turns (as_turn a.moment (asked_in_order (now_of a) x (0 ∷ []) None)) holds before refl (in_order-giver (now_of a) x (0 ∷ []) None tt))

-- A node holds the bucket of a Shaper.
pub shaper-input : (a : Nodes) (x : ℕ) (s : Bucket) → CanPull a x (edges_of a.inputs.items x) → slice_get a.states.items x ≡ Some (Shaper s) → HasInput a.inputs.items x
shaper-input a x s can state = fits-there a.inputs.items a.states.items x (Shaper s) can.fit state

-- It may ask, once the token is taken.
pub shaper-may : (a t : Nodes) (x : ℕ) (token : Bool) → CanPull a x (edges_of a.inputs.items x) → TakesToken a t x token → CanPull t x (edges_at t.inputs.items x 0) × IsSome (input_at t.inputs.items x 0)
shaper-may a t x token can k =
    let some = shaper-input a x k.bucket can k.held in
    subst (λ (n : Nodes). CanPull n x (edges_at n.inputs.items x 0) × IsSome (input_at n.inputs.items x 0)) (sym k.is)
    (can-look (with_state a x (Shaper k.left)) x (can-put a x (edges_of a.inputs.items x) (Shaper k.left) can (fits-each a.inputs.items x (Shaper k.left) some)) some, there-look a x can some)

-- There was no token.
pub shaper-refused : {S : Type 0} (gives : S → ℕ → Option Packet → S → Type 0) (a t : Nodes) (q : S) (x : ℕ) (token : Bool) → CanPull a x (edges_of a.inputs.items x) → TakesToken a t x token → token ≡ false → WasPulled gives a t q q x None
shaper-refused gives a t q x token can k without =
    subst (λ (n : Nodes). WasPulled gives a n q q x None) (sym k.is)
    (record {
      keeps = keeps-put a a x (edges_of a.inputs.items x) (Shaper k.left) (keeps-more a a 0 (edges_of a.inputs.items x) (keeps-none a can.fit) (omega arith)) (fits-each a.inputs.items x (Shaper k.left) some);
      answers = subst (λ l. Answers gives (queue_asked a.inputs.items) q l q) (sym (added-none a)) refl;
      pulls = pulls-put a a a (with_state a x (Shaper k.left)) x (Shaper k.bucket) (Shaper k.bucket) (Shaper k.left) None (still-put a x (Shaper k.bucket) k.held) k.held
          (shaper-alone a a x k.bucket (Shaper k.left) None
          (λ rate burst. subst (λ w. TakesTurn a a x (shaper rate burst) (Shaper k.bucket) (Shaper w) None) (sym same) (shaper-without a x k.bucket rate burst can.there some (subst (Tells k.bucket a.moment) without k.tells))))
          (is-put a x (Shaper k.left) (state-there a x (edges_of a.inputs.items x) can));
    })
  where
    some : HasInput a.inputs.items x
    some = shaper-input a x k.bucket can k.held

    same : k.left ≡ k.bucket
    same = subst (λ b. MatchBool b (IsTaken k.bucket k.left a.moment) (k.left ≡ k.bucket)) without k.taken

-- Its input was asked, with a token.
record Spends {S : Type 0} (gives : S → ℕ → Option Packet → S → Type 0) (a b : Nodes) (q r : S) (x : ℕ) (s z : Bucket) (got : Option Packet) : Type 0 where
  can : CanPull a x (edges_of a.inputs.items x)
  held : slice_get a.states.items x ≡ Some (Shaper s)
  tells : Tells s a.moment true
  taken : IsTaken s z a.moment
  asked : HasAsked gives (with_state a x (Shaper z)) b q r x 0 got

spends : {S : Type 0} (gives : S → ℕ → Option Packet → S → Type 0) (a t b : Nodes) (q r : S) (x : ℕ) (token : Bool) (got : Option Packet) → CanPull a x (edges_of a.inputs.items x) → (k : TakesToken a t x token) → token ≡ true
    → HasAsked gives t b q r x 0 got → Spends gives a b q r x k.bucket k.left got
spends gives a t b q r x token got can k with_one asked =
    record {
      can = can;
      held = k.held;
      tells = subst (Tells k.bucket a.moment) with_one k.tells;
      taken = subst (λ b. MatchBool b (IsTaken k.bucket k.left a.moment) (k.left ≡ k.bucket)) with_one k.taken;
      asked = subst (λ (n : Nodes). HasAsked gives n b q r x 0 got) k.is asked;
    }

spent-keeps : {S : Type 0} (gives : S → ℕ → Option Packet → S → Type 0) (a b : Nodes) (q r : S) (x : ℕ) (s z : Bucket) (got : Option Packet) → Spends gives a b q r x s z got → Keeps x a b (edges_of a.inputs.items x)
spent-keeps gives a b q r x s z got h = keeps-look a b x h.can (shaper-input a x s h.can h.held) (keeps-from a b x (edges_at a.inputs.items x 0) (Shaper z) (keeps-ahead (suc x) x (with_state a x (Shaper z)) b _ h.asked.keeps (omega arith)))

-- It gave a packet.
spent-passed : {S : Type 0} (gives : S → ℕ → Option Packet → S → Type 0) (a b : Nodes) (q r : S) (x : ℕ) (s z : Bucket) (got : Option Packet) → Spends gives a b q r x s z got → is_some got ≡ true → WasPulled gives a b q r x got
spent-passed gives a b q r x s z got h given =
    let turn : (class : Scheduler) → TakesTurn (with_state a x (Shaper z)) b x class (Shaper s) (Shaper z) got =
    shaper-alone (with_state a x (Shaper z)) b x s (Shaper z) got (shaper-passes (with_state a x (Shaper z)) b x s z got given h.can.there (shaper-input a x s h.can h.held) h.tells h.asked.asks h.taken)
    in
    record {
      keeps = spent-keeps gives a b q r x s z got h;
      answers = h.asked.answers;
      pulls = pulls-later a (with_state a x (Shaper z)) b b x (Shaper z) (Shaper s) (Shaper z) got (is-put a x (Shaper z) (state-there a x (edges_of a.inputs.items x) h.can)) h.held turn (λ there. (Shaper z, turn, still-put b x (Shaper z) there));
    }

pub shaper-passed : {S : Type 0} (gives : S → ℕ → Option Packet → S → Type 0) (a t b : Nodes) (q r : S) (x : ℕ) (token : Bool) (got : Option Packet) → CanPull a x (edges_of a.inputs.items x) → TakesToken a t x token → token ≡ true
    → HasAsked gives t b q r x 0 got → is_some got ≡ true → WasPulled gives a b q r x got
shaper-passed gives a t b q r x token got can k with_one asked given = spent-passed gives a b q r x k.bucket k.left got (spends gives a t b q r x token got can k with_one asked) given

-- It gave none, and the token was given back.
spent-back : {S : Type 0} (gives : S → ℕ → Option Packet → S → Type 0) (a b c : Nodes) (q r : S) (x : ℕ) (s z : Bucket) (got : Option Packet) → Spends gives a b q r x s z got → is_some got ≡ false → GivesBack b c x → WasPulled gives a c q r x None
spent-back gives a b c q r x s z got h none back =
    record {
      keeps = record {
        inputs = ap (λ v. v.items) back.inputs ∙ kept.inputs;
        pull = back.pull ∙ kept.pull;
        moment = back.moment ∙ kept.moment;
        fit = back.fits a.inputs.items kept.fit;
        ahead = λ y l. back.ahead y l ∙ kept.ahead y l;
        kind = ap (λ v. v.kind) back.log ∙ kept.kind;
        grown = ap (λ v. v.items) back.log ∙ kept.grown ∙ ap (λ l. a.log.items ++ l) (sym more);
        at_most = subst (λ v. a.log.spare ≤ v.spare + edges_of a.inputs.items x) (sym back.log) kept.at_most;
      };
      answers = subst (λ l. Answers gives (queue_asked a.inputs.items) q l r) (sym more) h.asked.answers;
      pulls = pulls-later a put b c x (Shaper z) (Shaper s) (Shaper s) None (is-put a x (Shaper z) (state-there a x (edges_of a.inputs.items x) h.can)) h.held (turn s (left-same s a.moment))
          (λ there. let g = back.given z there in (
            Shaper g.0,
            turn g.0 (λ rate burst turns t holds before at passed. g.2 s rate burst turns t (subst (IsTaken s z) (sym at) h.taken) holds (subst (λ n. AreBefore n turns) (sym at) before) passed),
            subst (λ (n : Nodes). IsPutIn b n x (Shaper g.0)) (sym g.1) (is-put b x (Shaper g.0) (slice_get_within b.states.items x (Shaper z) there)),
          ));
    }
  where
    put : Nodes
    put = with_state a x (Shaper z)

    kept : Keeps x a b (edges_of a.inputs.items x)
    kept = spent-keeps gives a b q r x s z got h

    more : added a c ≡ added a b
    more = ap (λ v. drop (length a.log.items) v.items) back.log

    turn : (w : Bucket) → IsLeft s w a.moment → (class : Scheduler) → TakesTurn put b x class (Shaper s) (Shaper w) None
    turn w left = shaper-alone put b x s (Shaper w) None (shaper-vain put b x s w got none h.can.there (shaper-input a x s h.can h.held) h.tells h.asked.asks left)

pub shaper-returned : {S : Type 0} (gives : S → ℕ → Option Packet → S → Type 0) (a t b c : Nodes) (q r : S) (x : ℕ) (token : Bool) (got : Option Packet) → CanPull a x (edges_of a.inputs.items x) → TakesToken a t x token → token ≡ true
    → HasAsked gives t b q r x 0 got → is_some got ≡ false → GivesBack b c x → WasPulled gives a c q r x None
shaper-returned gives a t b c q r x token got can k with_one asked none back = spent-back gives a b c q r x k.bucket k.left got (spends gives a t b q r x token got can k with_one asked) none back

-- A bucket that stands in its place is given its token back, and nothing else is changed.
pub given-back : (a : Nodes) (x : ℕ) (s z : Bucket) → slice_get a.states.items x ≡ Some (Shaper s) → IsGivenBack s z → GivesBack a (with_state a x (Shaper z)) x
given-back a x s z state back =
    record {
      inputs = refl;
      log = refl;
      pull = refl;
      moment = refl;
      fits = λ table fit. fit-set table a.states.items x (Shaper z) fit (λ p e. fit.each x p (Shaper s) e state);
      ahead = λ y l. set-ahead a.states.items x y (Shaper z) l;
      given = λ b e. (z, refl, subst (λ y. IsGivenBack y z) (bucket-same s b (some-same (Shaper s) (Shaper b) (sym state ∙ e))) back);
    }

-- Nothing is given back where no bucket stands.
pub none-given : (a : Nodes) (x : ℕ) (w : State) → slice_get a.states.items x ≡ Some w → ((b : Bucket) → w ≢ Shaper b) → GivesBack a (with_state a x w) x
none-given a x w state other = search (rules, fit-set, some-same, set-ahead)
