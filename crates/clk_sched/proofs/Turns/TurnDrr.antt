-- The turn of a DRRSched, visit by visit.
use Rattle.std.proofs.Common.{◌≡◌, ◌≢◌, ℕ, zero, suc, ◌+◌, ◌%◌, ◌<◌, Bool, true, false, if◌then◌else◌, List, [], ◌∷◌, ◌++◌, length, vec_len, map, slice_get, Option, Some, None, IsSome, IfSome, MatchBool, inl, inr, refl, sym, ap, ◌∙◌, subst, arith, rules}
use Rattle.std.specs.List.{AllByRecursion}
use Rattle.std.proofs.lemmas.List.{map-append, length-append}
use Rattle.std.specs.Global.{Box}
use Rattle.clk_packet.specs.declared.packet.Packet.{Packet}
use Rattle.clk_sched.specs.declared.visit.Visit.{Visit}
use Rattle.clk_sched.specs.declared.session.inputs.Inputs.{Inputs}
use Rattle.clk_sched.specs.declared.session.drr.Deficits.{Deficits}
use Rattle.clk_sched.specs.declared.session.nodes.Nodes.{Nodes}
use Rattle.clk_sched.specs.declared.session.state.State.{State}
use Rattle.clk_sched.specs.declared.session.state.State.TheVariants.{Drr}
use Rattle.clk_packet.specs.Scheduler.{Scheduler, drr}
use Rattle.clk_sched.specs.Tree.{width}
use Rattle.clk_sched.specs.Turns.{Turn, EachAfter, visits_before}
use Rattle.clk_sched.specs.Heads.{LooksAtHeads, EndAtPass}
use Rattle.clk_sched.specs.Laws.Deficit.{next_input, deficit_covers}
use Rattle.clk_sched.specs.Log.{visits_of, result_of}
use Rattle.clk_sched.specs.inside.Holds.Deficit.{HoldsDeficits}
use Rattle.clk_sched.specs.Answers.{Answers}
use Rattle.clk_sched.specs.inside.Places.{AllFit, edges_of, edges_at, edges_in, input_at, queue_asked}
use Rattle.clk_sched.specs.inside.Pulling.{AreApart, input_of, CanPull, Keeps, AsksAll, GoesOnBy, IsUnasked, added, now_of, with_turn, TakesTurn}
use Rattle.clk_sched.specs.inside.Looking.{LooksAt}
use Rattle.clk_sched.specs.inside.Making.{HasMade, IsAround, IsMaking, RowFits, MayGoOn, GoesOnInVain}
use Rattle.clk_sched.specs.inside.Turning.{HadTurn}
use Rattle.clk_packet.specs.Lists.{In}
use Rattle.clk_sched.proofs.Lists.Members.{to-all, all-append, all-weaker}
use Rattle.clk_sched.proofs.Runs.Allowed.{onto, onto-append, each-join}
use Rattle.clk_sched.proofs.Lists.Apart.{apart-map}
use Rattle.clk_sched.proofs.Classes.Orders.{IsPlace, first-place, next-place, beyond-differs}
use Rattle.clk_sched.proofs.Nodes.Pulling.{pulling-first, pulling-own}
use Rattle.clk_sched.proofs.Nodes.Asking.{added-none, added-then, keeps-then, keeps-none, keeps-ahead, can-go_on, answers-then, edges-append, asks-then, asks-none}
use Rattle.clk_sched.proofs.Nodes.Ordered.{item-there, stands-width, can-order, order-there, keeps-order}

-- by what a DRRSched holds, a scheduler of no other class has a turn
drr-alone : (a b : Nodes) (x : ℕ) (s : Box Deficits) (now : State) (got : Option Packet) → ((quanta : List ℕ) → TakesTurn a b x (drr quanta) (Drr s) now got) → (class : Scheduler) → TakesTurn a b x class (Drr s) now got
drr-alone a b x s now got h (drr quanta) row history ready holds = h quanta row history ready holds
drr-alone a b x s now got h class row history ready holds = absurd holds

-- What a DRRSched did at the input whose turn it was.
pub record HasLooked {S : Type 0} (gives : S → ℕ → Option Packet → S → Type 0) (old new : Nodes) (before now : S) (x : ℕ) (mid last : Deficits) (v : Visit) : Type 0 where
  pub keeps : Keeps (suc x) old new (edges_at old.inputs.items x v.input)
  pub answers : Answers gives (queue_asked old.inputs.items) before (added old new) now
  pub asks : AsksAll old new x (v.input ∷ []) (v ∷ [])
  pub length_is : length last.row.items ≡ length mid.row.items
  pub lawful : (quanta : List ℕ) (inputs : ℕ) (earlier : List Visit) → HoldsDeficits quanta inputs earlier mid → LooksAtHeads (next_input inputs) (deficit_covers quanta) earlier v
  pub holds : (quanta : List ℕ) (inputs : ℕ) (earlier : List Visit) → HoldsDeficits quanta inputs earlier mid → HoldsDeficits quanta inputs (v ∷ earlier) last

pub has-looked : {S : Type 0} (gives : S → ℕ → Option Packet → S → Type 0) (b c : Nodes) (q r : S) (x : ℕ) (mid last : Deficits) (got : Option Packet) (passed : Bool) (l : LooksAt gives b c q r x mid last got passed)
    → HasLooked gives b c q r x mid last l.looks.visit
has-looked gives b c q r x mid last got passed l =
    record {
      keeps = subst (λ i. Keeps (suc x) b c (edges_at b.inputs.items x i)) (sym l.looks.input) l.keeps;
      answers = l.answers;
      asks = subst (λ i. AsksAll b c x (i ∷ []) (l.looks.visit ∷ [])) (sym l.looks.input) l.looks.asks;
      length_is = l.length_is;
      lawful = l.looks.lawful;
      holds = l.looks.holds;
    }

in-map : (v : Visit) (own : List Visit) → In v own → In v.input (map input_of own)
in-map v [] m = absurd m
in-map v (u ∷ own) (inl e) = inl (ap input_of e)
in-map v (u ∷ own) (inr m) = inr (in-map v own m)

apart-put : (own : List Visit) (v : Visit) → AreApart input_of own → AllByRecursion (λ (u : Visit). v.input ≢ u.input) own → AreApart input_of (own ++ v ∷ [])
apart-put [] v h d = (tt, tt)
apart-put (u ∷ own) v h d = (all-append (λ (w : Visit). w.input ≢ u.input) own (v ∷ []) h.0 (d.0, tt), apart-put own v h.1 d.1)

inputs-apart : (own : List Visit) → AreApart input_of own → AreApart (λ (i : ℕ). i) (map input_of own)
inputs-apart own h = apart-map input_of own h

inputs-next : (own : List Visit) (v : Visit) → map input_of (own ++ v ∷ []) ≡ map input_of own ++ v.input ∷ []
inputs-next own v = map-append input_of own (v ∷ [])

edges-next : (table : List Inputs) (x : ℕ) (own : List Visit) (v : Visit) → edges_in table x (map input_of (own ++ v ∷ [])) ≡ edges_in table x (map input_of own) + edges_at table x v.input
edges-next table x own v = search (rules, edges-append, inputs-next)

onto-next : (own earlier : List Visit) (v : Visit) → onto (own ++ v ∷ []) earlier ≡ v ∷ onto own earlier
onto-next [] earlier v = refl
onto-next (u ∷ own) earlier v = onto-next own (u ∷ earlier) v

pub made-then : {S : Type 0} (gives : S → ℕ → Option Packet → S → Type 0) (a b c : Nodes) (p q r : S) (x : ℕ) (first mid last : Deficits) (own : List Visit) (v : Visit) → HasMade gives a b p q x first mid own
    → v.input < length first.row.items → AllByRecursion (λ (u : Visit). v.input ≢ u.input) own → HasLooked gives b c q r x mid last v → HasMade gives a c p r x first last (own ++ v ∷ [])
made-then gives a b c p q r x first mid last own v h within new k =
    record {
      keeps = subst (Keeps (suc x) a c) (sym (edges-next a.inputs.items x own v)) (keeps-then a b c _ _ h.keeps second);
      answers =
          subst (λ l. Answers gives (queue_asked a.inputs.items) p l r) (sym (added-then a b c _ _ h.keeps second))
          (answers-then gives (queue_asked a.inputs.items) (added a b) (added b c) p q r h.answers (subst (λ t. Answers gives (queue_asked t) q (added b c) r) h.keeps.inputs k.answers));
      asks =
          subst (λ l. AsksAll a c x l (own ++ v ∷ [])) (sym (inputs-next own v))
          (asks-then a b c _ _ x (map input_of own) (v.input ∷ []) own (v ∷ []) h.keeps second (to-all (λ (u : Visit). In u.input (map input_of own)) own (λ u m. in-map u own m)) h.asks k.asks);
      length_is = k.length_is ∙ h.length_is;
      within = all-append (λ (u : Visit). u.input < length first.row.items) own (v ∷ []) h.within (within, tt);
      apart = apart-put own v h.apart new;
      lawful = λ quanta inputs earlier held.
          let before = h.lawful quanta inputs earlier held in (
            each-join (LooksAtHeads (next_input inputs) (deficit_covers quanta)) earlier own (v ∷ []) before.0 (k.lawful quanta inputs (onto own earlier) before.1, tt),
            subst (λ l. HoldsDeficits quanta inputs l last) (sym (onto-next own earlier v)) (k.holds quanta inputs (onto own earlier) before.1),
          );
    }
  where
    second : Keeps (suc x) b c (edges_at a.inputs.items x v.input)
    second = subst (λ t. Keeps (suc x) b c (edges_at t x v.input)) h.keeps.inputs k.keeps

pub making-first : {S : Type 0} (gives : S → ℕ → Option Packet → S → Type 0) (a : Nodes) (q : S) (x : ℕ) (d : Deficits) → AllFit a.inputs.items a.states.items → IsMaking gives a a q q x d d 0
making-first gives a q x d fit =
    record {
      own = [];
      made = record {
        keeps = keeps-none a fit;
        answers = subst (λ l. Answers gives (queue_asked a.inputs.items) q l q) (sym (added-none a)) refl;
        asks = asks-none a x;
        length_is = refl;
        within = tt;
        apart = tt;
        lawful = λ quanta inputs earlier held. (tt, held);
      };
      count_is = refl;
      vain = tt;
      around = tt;
      next = first-place (length d.row.items) d.cursor d.cursor_within;
    }

-- the next input is none of those
making-new : {S : Type 0} (gives : S → ℕ → Option Packet → S → Type 0) (a b : Nodes) (p q : S) (x : ℕ) (first mid : Deficits) (count : ℕ) (h : IsMaking gives a b p q x first mid count) → count < length first.row.items
    → (i : ℕ) → i ≡ mid.cursor → AllByRecursion (λ (u : Visit). i ≢ u.input) h.own
making-new gives a b p q x first mid count h l i e = search (rules, all-weaker, beyond-differs)

record HasRow (table : List Inputs) (x : ℕ) (d : Deficits) : Type 0 where
  inputs : Inputs
  place : slice_get table x ≡ Some inputs
  long : length d.row.items ≡ length inputs.each.items

row-there : (table : List Inputs) (x : ℕ) (d : Deficits) → x < length table → RowFits table x d → HasRow table x d
row-there table x d l fits =
    let p = item-there table x l in record { inputs = p.0; place = p.1; long = subst (λ o. IfSome o (λ (y : Inputs). length d.row.items ≡ length y.each.items)) p.1 fits }

-- room for a look at the next input
pub making-can : {S : Type 0} (gives : S → ℕ → Option Packet → S → Type 0) (a b : Nodes) (p q : S) (x : ℕ) (first mid : Deficits) (count : ℕ) → CanPull a x (edges_of a.inputs.items x) → RowFits a.inputs.items x first
    → IsMaking gives a b p q x first mid count → count < length first.row.items
    → CanPull b x (edges_at b.inputs.items x mid.cursor) × IsSome (input_at b.inputs.items x mid.cursor)
making-can gives a b p q x first mid count can fits h l = (
  subst (λ t. CanPull b x (edges_at t x mid.cursor)) (sym h.made.keeps.inputs)
      (can-go_on a b x (edges_in a.inputs.items x (map input_of h.own)) (edges_at a.inputs.items x mid.cursor) (subst (CanPull a x) (edges-next a.inputs.items x h.own at) (can-order a x here.inputs (map input_of (h.own ++ at ∷ [])) can here.place apart)) h.made.keeps),
  subst (λ t. IsSome (input_at t x mid.cursor)) (sym h.made.keeps.inputs) (order-there a.inputs.items x here.inputs (mid.cursor ∷ []) here.place (subst (λ n. mid.cursor < n) here.long h.next.within, tt)).0,
)
  where
    here : HasRow a.inputs.items x first
    here = row-there a.inputs.items x first can.there fits

    at : Visit
    at = record { pull = 0; moment = 0; got = None; node = x; input = mid.cursor; fresh = true; passed = false }

    apart : AreApart (λ (i : ℕ). i) (map input_of (h.own ++ at ∷ []))
    apart = inputs-apart (h.own ++ at ∷ []) (apart-put h.own at h.made.apart (making-new gives a b p q x first mid count h l mid.cursor refl))

-- the visits with one more
pub making-more : {S : Type 0} (gives : S → ℕ → Option Packet → S → Type 0) (a b c : Nodes) (p q r : S) (x : ℕ) (first mid last : Deficits) (count : ℕ) (v : Visit) (h : IsMaking gives a b p q x first mid count)
    → count < length first.row.items → v.input ≡ mid.cursor → HasLooked gives b c q r x mid last v → HasMade gives a c p r x first last (h.own ++ v ∷ [])
making-more gives a b c p q r x first mid last count v h l at k =
    made-then gives a b c p q r x first mid last h.own v h.made (subst (λ i. i < length first.row.items) (sym at) h.next.within) (making-new gives a b p q x first mid count h l v.input at) k

pub making-next : {S : Type 0} (gives : S → ℕ → Option Packet → S → Type 0) (a b c : Nodes) (p q r : S) (x : ℕ) (first mid last : Deficits) (count : ℕ) (got : Option Packet) (passed : Bool) → IsMaking gives a b p q x first mid count
    → count < length first.row.items → LooksAt gives b c q r x mid last got passed → passed ≡ false → IsMaking gives a c p r x first last (count + 1)
making-next gives a b c p q r x first mid last count got passed h l look vain =
    record {
      own = h.own ++ v ∷ [];
      made = making-more gives a b c p q r x first mid last count v h l at (has-looked gives b c q r x mid last got passed look);
      count_is = length-append h.own (v ∷ []) ∙ ap (λ m. m + 1) h.count_is;
      vain = all-append (λ (u : Visit). u.passed ≡ false) h.own (v ∷ []) h.vain (look.looks.passes ∙ vain, tt);
      around = all-append (IsAround n s (count + 1)) h.own (v ∷ [])
          (all-weaker (IsAround n s count) (IsAround n s (count + 1)) h.own (λ u k. record { places = k.places; below = (let m = k.below in omega arith); place = k.place }) h.around)
          (record { places = count; below = omega arith; place = subst (IsPlace n s count) (sym at) h.next }, tt);
      next = subst (IsPlace n s (count + 1)) (sym (look.moves vain ∙ ap (λ m. (mid.cursor + 1) % m) h.made.length_is)) (next-place n s count mid.cursor first.cursor_within l h.next);
    }
  where
    n : ℕ
    n = length first.row.items

    s : ℕ
    s = first.cursor

    v : Visit
    v = look.looks.visit

    at : v.input ≡ mid.cursor
    at = look.looks.input

-- how the visits end, and their result
end-passed : (n : ℕ) (own : List Visit) (v : Visit) → AllByRecursion (λ (u : Visit). u.passed ≡ false) own → length own < n → v.passed ≡ true → EndAtPass n (own ++ v ∷ [])
end-passed zero own v h l e = absurd (omega arith)
end-passed (suc n) [] v h l e = subst (λ b. MatchBool b (◌≡◌ {A = List Visit} [] []) (EndAtPass n [])) (sym e) refl
end-passed (suc n) (u ∷ own) v h l e = subst (λ b. MatchBool b (own ++ v ∷ [] ≡ []) (EndAtPass n (own ++ v ∷ []))) (sym h.0) (end-passed n own v h.1 (omega arith) e)

end-all : (own : List Visit) → AllByRecursion (λ (u : Visit). u.passed ≡ false) own → EndAtPass (length own) own
end-all [] h = refl
end-all (u ∷ own) h = subst (λ b. MatchBool b (own ≡ []) (EndAtPass (length own) own)) (sym h.0) (end-all own h.1)

result-passed : (own : List Visit) (v : Visit) → AllByRecursion (λ (u : Visit). u.passed ≡ false) own → v.passed ≡ true → result_of (own ++ v ∷ []) ≡ v.got
result-passed [] v h e = ap (λ b. if b then v.got else None) e
result-passed (u ∷ own) v h e = ap (λ b. if b then u.got else result_of (own ++ v ∷ [])) h.0 ∙ result-passed own v h.1 e

result-none : (own : List Visit) → AllByRecursion (λ (u : Visit). u.passed ≡ false) own → result_of own ≡ None
result-none [] h = refl
result-none (u ∷ own) h = ap (λ b. if b then u.got else result_of own) h.0 ∙ result-none own h.1

-- A DRRSched had its turn.
pub record HasEnded {S : Type 0} (gives : S → ℕ → Option Packet → S → Type 0) (old new : Nodes) (before now : S) (x : ℕ) (first last : Deficits) (got : Option Packet) : Type 0 where
  pub own : List Visit
  pub made : HasMade gives old new before now x first last own
  pub end : EndAtPass (length first.row.items) own
  pub result : got ≡ result_of own

-- an input is left to be looked at
pub looks-below : (d : Deficits) (looks count : ℕ) → looks < count → count ≡ vec_len d.row → looks < length d.row.items
looks-below d looks count below all = let same = all ∙ d.row.ok.0 in omega (arith, below, same)

-- A DRRSched that may go on can ask the next.
pub going-can : {S : Type 0} (gives : S → ℕ → Option Packet → S → Type 0) (a b : Nodes) (q : S) (x : ℕ) (d mid : Deficits) (more k : ℕ) → MayGoOn gives a q x d more → GoesOnInVain gives a b q x d mid k → k < more
    → CanPull b x (edges_at b.inputs.items x mid.cursor) × IsSome (input_at b.inputs.items x mid.cursor)
going-can gives a b q x d mid more k h goes l =
    let within = h.within in
    making-can gives h.first b h.before q x h.begun mid (h.looks + k) h.can h.fits (goes h.first h.before h.begun h.looks h.making (omega (arith, within, l))) (omega (arith, within, l))

-- the visits in vain, none so far and one more
pub goes-none : {S : Type 0} (gives : S → ℕ → Option Packet → S → Type 0) (a : Nodes) (q : S) (x : ℕ) (d : Deficits) → GoesOnInVain gives a a q x d d 0
goes-none gives a q x d first before begun looks h l = let same : looks ≡ looks + 0 = omega arith in subst (IsMaking gives first a before q x begun d) same h

pub goes-next : {S : Type 0} (gives : S → ℕ → Option Packet → S → Type 0) (a b c : Nodes) (q : S) (x : ℕ) (d mid last : Deficits) (k : ℕ) → GoesOnInVain gives a b q x d mid k → LooksAt gives b c q q x mid last None false
    → GoesOnInVain gives a c q x d last (k + 1)
goes-next gives a b c q x d mid last k goes look first before begun looks h l =
    let same : looks + k + 1 ≡ looks + (k + 1) = omega arith in
    subst (IsMaking gives first c before q x begun last) same (making-next gives first b c before q q x begun mid last (looks + k) None false (goes first before begun looks h (omega (arith, l))) (omega (arith, l)) look refl)

pub making-passed : {S : Type 0} (gives : S → ℕ → Option Packet → S → Type 0) (a b c : Nodes) (p q r : S) (x : ℕ) (first mid last : Deficits) (count : ℕ) (got : Option Packet) (passed : Bool) → IsMaking gives a b p q x first mid count
    → count < length first.row.items → LooksAt gives b c q r x mid last got passed → passed ≡ true → HasEnded gives a c p r x first last got
making-passed gives a b c p q r x first mid last count got passed h l look is =
    record {
      own = h.own ++ v ∷ [];
      made = making-more gives a b c p q r x first mid last count v h l look.looks.input (has-looked gives b c q r x mid last got passed look);
      end = end-passed (length first.row.items) h.own v h.vain (let e = h.count_is in omega (arith, e)) (look.looks.passes ∙ is);
      result = sym (result-passed h.own v h.vain (look.looks.passes ∙ is) ∙ look.looks.gets);
    }
  where
    v : Visit
    v = look.looks.visit

pub making-all : {S : Type 0} (gives : S → ℕ → Option Packet → S → Type 0) (a b : Nodes) (p q : S) (x : ℕ) (first last : Deficits) (count : ℕ) → IsMaking gives a b p q x first last count
    → count ≡ length first.row.items → HasEnded gives a b p q x first last None
making-all gives a b p q x first last count h all = search (rules, end-all, result-none)

-- the visits before, once the turn is one of them
turn-before : (moment : ℕ) (own : List Visit) (turns : List Turn) → onto own (visits_before turns) ≡ visits_before (with_turn moment own turns)
turn-before moment own turns = search (rules, onto-append)

pub drr-turn : {S : Type 0} (gives : S → ℕ → Option Packet → S → Type 0) (a b : Nodes) (p q : S) (x : ℕ) (first last : Box Deficits) (got : Option Packet) (inputs : Inputs) → slice_get a.inputs.items x ≡ Some inputs
    → length first.value.row.items ≡ length inputs.each.items → HasEnded gives a b p q x first.value last.value got → (quanta : List ℕ) → TakesTurn a b x (drr quanta) (Drr first) (Drr last) got
drr-turn gives a b p q x first last got inputs e long h quanta row history ready holds =
    record {
      turned = record {
        block = record {
          own = h.own;
          made = goes.pulling.made;
          whole = goes.pulling.whole;
          theirs = goes.pulling.theirs;
          apart = h.made.apart;
          allowed = record {
            within = subst (λ n. AllByRecursion (λ (v : Visit). v.input < n) h.own) wide h.made.within;
            follows = (law.0, subst (λ n. EndAtPass n h.own) wide h.end);
          };
          each = goes.pulling.each;
          result = h.result;
        };
        holds = goes.pulling.holds;
        outside = goes.outside;
      };
      holds = subst (λ l. HoldsDeficits quanta (width row) (visits_before (with_turn a.moment l (history x))) last.value) (sym own_is)
          (subst (λ l. HoldsDeficits quanta (width row) l last.value) (turn-before a.moment h.own (history x)) law.1);
    }
  where
    wide : length first.value.row.items ≡ width row
    wide = long ∙ stands-width a.inputs.items x row inputs ready.stands e

    law : EachAfter (LooksAtHeads (next_input (width row)) (deficit_covers quanta)) (visits_before (history x)) h.own × HoldsDeficits quanta (width row) (onto h.own (visits_before (history x))) last.value
    law = h.made.lawful quanta (width row) (visits_before (history x)) holds

    goes : GoesOnBy a b history x row [] [] h.own
    goes =
        h.made.asks row history [] [] (record { stands = ready.stands; before = ready.before; pulling = pulling-first (now_of a) history x row a.states.items ready.holds })
        (to-all (IsUnasked []) (map input_of h.own) (λ i m. tt)) (inputs-apart h.own h.made.apart)

    own_is : visits_of x (added a b) ≡ h.own
    own_is = pulling-own (now_of a) history x row b.states.items (added a b) h.own goes.pulling

-- It had its turn, by what stands in one box before it and in one after it.
pub had-ended : {S : Type 0} (gives : S → ℕ → Option Packet → S → Type 0) (a b : Nodes) (p q : S) (x : ℕ) (first last : Deficits) (got : Option Packet) → CanPull a x (edges_of a.inputs.items x) → RowFits a.inputs.items x first
    → HasEnded gives a b p q x first last got → (held holds : Box Deficits) → held.value ≡ first → holds.value ≡ last → HadTurn gives a b p q x (Drr held) (Drr holds) got
had-ended gives a b p q x first last got can fits h held holds before after =
    boxed (subst (RowFits a.inputs.items x) (sym before) fits)
    (subst (λ d. HasEnded gives a b p q x held.value d got) (sym after) (subst (λ d. HasEnded gives a b p q x d last got) (sym before) h))
  where
    boxed : RowFits a.inputs.items x held.value → HasEnded gives a b p q x held.value holds.value got → HadTurn gives a b p q x (Drr held) (Drr holds) got
    boxed fits h =
        let here : HasRow a.inputs.items x held.value = row-there a.inputs.items x held.value can.there fits in
        record {
          keeps = keeps-ahead (suc x) x a b _ (keeps-order a b x here.inputs (map input_of h.own) can here.place (inputs-apart h.own h.made.apart) h.made.keeps) (omega arith);
          answers = h.made.answers;
          fits = subst (λ n. IfSome (slice_get a.inputs.items x) (λ (y : Inputs). n ≡ length y.each.items)) (sym h.made.length_is) fits;
          turn = drr-alone a b x held (Drr holds) got (drr-turn gives a b p q x held holds got here.inputs here.place here.long h);
        }
