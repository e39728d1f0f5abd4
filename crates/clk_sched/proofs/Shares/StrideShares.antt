-- The shares of a StrideSched.
use Rattle.std.proofs.Common.{◌≡◌, ℕ, zero, suc, ◌+◌, ◌*◌, ◌<◌, ◌≤◌, ◌==◌, ◌||◌, if◌then◌else◌, inl, inr, Bool, true, false, List, [], ◌∷◌, ◌++◌, length, map, Option, Some, None, is_some, MatchOption, option_map, unwrap_or, refl, sym, ap, ◌∙◌, subst, zero-add, arith, rules}
use Rattle.std.specs.List.{enumerate_from, AllByRecursion}
use Rattle.std.proofs.lemmas.Bool.{false≢true}
use Rattle.std.proofs.lemmas.Option.{slice_get-map}
use Rattle.clk_packet.specs.declared.packet.Packet.{Packet}
use Rattle.clk_sched.specs.declared.visit.Visit.{Visit}
use Rattle.clk_sched.specs.Turns.{Turn, EachAfter, giver, all_visits, UpToFirst, AsksInOrder}
use Rattle.clk_sched.specs.Laws.Stride.{visits_input, passes_after, passes_of, stride_order, pass_in, stride_at}
use Rattle.clk_sched.specs.inside.Rising.{put_in_order, in_rising_order}
use Rattle.clk_sched.specs.Service.{AlwaysGets, Near, largest_stride, packets_given, pass_at, SharesByStride}
use Rattle.clk_packet.specs.Lists.{In}
use Rattle.clk_sched.proofs.Lists.Members.{of-all, all-split}
use Rattle.clk_sched.proofs.Lists.Rising.{in-ordered, ordered-in}
use Rattle.clk_sched.proofs.Runs.Allowed.{onto, onto-reverse, each-split}
use Rattle.clk_sched.proofs.Classes.Orders.{put-all, passes-length}
use Rattle.clk_sched.proofs.Classes.Enumerated.{at-enumerated, in-enumerated, enumerated-at}
use Rattle.clk_sched.proofs.Lists.Numbers.{is_number}

-- each pass is no greater than those after it
abbrev AtLeast : ℕ → List (ℕ × ℕ) → Type 0
AtLeast least pairs = AllByRecursion (λ (y : ℕ × ℕ). least ≤ y.1) pairs

abbrev IsRising : List (ℕ × ℕ) → Type 0
IsRising [] = Unit {0}
IsRising (x ∷ pairs) = AtLeast x.1 pairs × IsRising pairs

lower : (m n : ℕ) (pairs : List (ℕ × ℕ)) → m ≤ n → AtLeast n pairs → AtLeast m pairs
lower m n [] l h = tt
lower m n (y ∷ pairs) l h = (let k = h.0 in omega arith, lower m n pairs l h.1)

put-rising : (i : ℕ × ℕ) (pairs : List (ℕ × ℕ)) → IsRising pairs → IsRising (put_in_order i pairs)
put-rising i [] h = (tt, tt)
put-rising i (j ∷ pairs) h = search (rules, lower, put-all, (put-rising i pairs h.1))

rising : (pairs : List (ℕ × ℕ)) → IsRising (in_rising_order pairs)
rising [] = tt
rising (i ∷ pairs) = put-rising i (in_rising_order pairs) (rising pairs)

-- the input that gave a packet has the least pass of those that weren't visited before it
record IsLeast (pairs : List (ℕ × ℕ)) (visits : List Visit) (w : ℕ) : Type 0 where
  pass : ℕ
  member : In (w, pass) pairs
  least : (x : ℕ × ℕ) → In x pairs → visits_input x.0 visits ≡ false → pass ≤ x.1

winner-least : (pairs : List (ℕ × ℕ)) (visits : List Visit) (w : ℕ) → IsRising pairs → UpToFirst (map (λ (i : ℕ × ℕ). i.0) pairs) visits → giver visits ≡ Some w → IsLeast pairs visits w
winner-least pairs [] w r h e = absurd (false≢true (ap is_some e))
winner-least [] (v ∷ visits) w r h e = absurd h
winner-least (s ∷ pairs) (v ∷ visits) w r h e = by_got v.got h.1 e (winner-least pairs visits w r.1)
  where
    by_got : (o : Option Packet) → MatchOption o (UpToFirst (map (λ (i : ℕ × ℕ). i.0) pairs) visits) (λ _. visits ≡ []) → (if is_some o then Some v.input else giver visits) ≡ Some w
        → (UpToFirst (map (λ (i : ℕ × ℕ). i.0) pairs) visits → giver visits ≡ Some w → IsLeast pairs visits w) → IsLeast (s ∷ pairs) (v ∷ visits) w
    by_got (Some p) k f rest =
        record {
          pass = s.1;
          member = inl (ap (λ i. (i, s.1)) (sym h.0 ∙ ap (λ o. unwrap_or o 0) f));
          least = λ x m n. by_place x m;
        }
      where
        by_place : (x : ℕ × ℕ) → In x (s ∷ pairs) → s.1 ≤ x.1
        by_place x g = search (rules, of-all)
    by_got None k f rest =
        let below = rest k f in
        record {
          pass = below.pass;
          member = inr below.member;
          least = λ x m n. by_place below x m n;
        }
      where
        by_place : (below : IsLeast pairs visits w) (x : ℕ × ℕ) → In x (s ∷ pairs) → ((v.input == x.0) || visits_input x.0 visits) ≡ false → below.pass ≤ x.1
        by_place below x at n = search rules

after-none : (tickets passes : List ℕ) (t : Turn) → giver t.visits ≡ None → passes_after tickets passes t ≡ passes
after-none tickets passes t e = rw e refl

-- the pass of an input after a pull that a winner won
after-won : (tickets passes : List ℕ) (t : Turn) (w i : ℕ) → giver t.visits ≡ Some w → i < length passes
    → pass_in (passes_after tickets passes t) i ≡ (if i == w then pass_in passes i + stride_at tickets w else (if visits_input i t.visits then pass_in passes w else pass_in passes i))
after-won tickets passes t w i e l = rw e (ap (λ o. unwrap_or o 0) (slice_get-map _ (enumerate_from 0 passes) i ∙ ap (option_map _) (at-enumerated passes i l)))

-- the pass that the winner had, of which every pass after the pull is at least
record IsWinnersPass (tickets passes : List ℕ) (t : Turn) (w : ℕ) : Type 0 where
  within : w < length passes
  least : (i : ℕ) → i < length passes → visits_input i t.visits ≡ false → pass_in passes w ≤ pass_in passes i

winners-pass : (tickets passes : List ℕ) (t : Turn) (w : ℕ) → UpToFirst (map (λ (i : ℕ × ℕ). i.0) (in_rising_order (enumerate_from 0 passes))) t.visits → giver t.visits ≡ Some w
    → IsWinnersPass tickets passes t w
winners-pass tickets passes t w h e =
    record {
      within = let a = place.1 in let b = place.2 in omega (arith, a, b);
      least = λ i l n. let k = least.least (i, pass_in passes i) (in-ordered (i, pass_in passes i) (enumerate_from 0 passes) (in-enumerated passes i l)) n in omega (arith, k, pass);
    }
  where
    least : IsLeast (in_rising_order (enumerate_from 0 passes)) t.visits w
    least = winner-least (in_rising_order (enumerate_from 0 passes)) t.visits w (rising (enumerate_from 0 passes)) h e

    place : (k : ℕ) × (0 + k ≡ w) × (k < length passes) × (pass_in passes k ≡ least.pass)
    place = enumerated-at 0 passes (w, least.pass) (ordered-in (w, least.pass) (enumerate_from 0 passes) least.member)

    pass : pass_in passes w ≡ least.pass
    pass = ap (pass_in passes) (sym place.1 ∙ zero-add place.0) ∙ place.3

strides : (tickets : List ℕ) (i : ℕ) → i < length tickets → stride_at tickets i ≤ largest_stride tickets
strides [] i l = absurd (omega arith)
strides (t ∷ tickets) zero l = omega arith
strides (t ∷ tickets) (suc i) l = let rest = strides tickets i (omega arith) in omega (arith, rest)

-- a turn as a StrideSched has it
abbrev IsStrideTurn : List ℕ → List Turn → Turn → Type 0
IsStrideTurn tickets earlier t = AsksInOrder (stride_order tickets earlier) t.visits

-- two passes differ by the largest stride at most
abbrev AreNear : List ℕ → List Turn → Type 0
AreNear tickets earlier = (i j : ℕ) → i < length tickets → j < length tickets → pass_at tickets earlier i ≤ pass_at tickets earlier j + largest_stride tickets

zeros : (tickets : List ℕ) (i : ℕ) → pass_in (map (λ _. 0) tickets) i ≡ 0
zeros [] i = refl
zeros (t ∷ tickets) zero = refl
zeros (t ∷ tickets) (suc i) = zeros tickets i

near-first : (tickets : List ℕ) → AreNear tickets []
near-first tickets i j l m = let a = zeros tickets i in omega (arith, a)

near-turn : (tickets : List ℕ) (earlier : List Turn) (t : Turn) → IsStrideTurn tickets earlier t → AreNear tickets earlier → AreNear tickets (t ∷ earlier)
near-turn tickets earlier t law near i j l m = by_giver (giver t.visits) refl
  where
    passes : List ℕ
    passes = passes_of tickets earlier

    inside : (k : ℕ) → k < length tickets → k < length passes
    inside k h = subst (λ n. k < n) (sym (passes-length tickets earlier)) h

    by_giver : (o : Option ℕ) → giver t.visits ≡ o → pass_at tickets (t ∷ earlier) i ≤ pass_at tickets (t ∷ earlier) j + largest_stride tickets
    by_giver None e = subst (λ p. pass_in p i ≤ pass_in p j + largest_stride tickets) (sym (after-none tickets passes t e)) (near i j l m)
    by_giver (Some w) e =
        let one = upper (i == w) (visits_input i t.visits) refl in
        let other = under (j == w) (visits_input j t.visits) refl refl in
        let a = after-won tickets passes t w i e (inside i l) in
        let b = after-won tickets passes t w j e (inside j m) in
        omega (arith, one, other, a, b)
      where
        won : IsWinnersPass tickets passes t w
        won = winners-pass tickets passes t w law.in_order e

        in_tickets : w < length tickets
        in_tickets = subst (λ n. w < n) (passes-length tickets earlier) won.within

        upper : (b c : Bool) → (i == w) ≡ b → (if b then pass_in passes i + stride_at tickets w else (if c then pass_in passes w else pass_in passes i)) ≤ pass_in passes w + largest_stride tickets
        upper b c f = search (rules, strides, in_tickets, passes)

        under : (b c : Bool) → (j == w) ≡ b → visits_input j t.visits ≡ c → pass_in passes w ≤ (if b then pass_in passes j + stride_at tickets w else (if c then pass_in passes w else pass_in passes j))
        under b c f g = grind (arith, passes, won, inside)

near-all : (tickets : List ℕ) (earlier turns : List Turn) → EachAfter (IsStrideTurn tickets) earlier turns → AreNear tickets earlier → AreNear tickets (onto turns earlier)
near-all tickets earlier [] law near = near
near-all tickets earlier (t ∷ turns) law near = near-all tickets (t ∷ earlier) turns law.1 (near-turn tickets earlier t law.0 near)

-- an input that always gives a packet wins each pull in which it is visited
visited-wins : (order : List ℕ) (visits : List Visit) (i : ℕ) → UpToFirst order visits → AlwaysGets i visits → visits_input i visits ≡ true → giver visits ≡ Some i
visited-wins order [] i h gets e = absurd (false≢true e)
visited-wins [] (v ∷ visits) i h gets e = absurd h
visited-wins (k ∷ order) (v ∷ visits) i h gets e = search (rules, false≢true, (visited-wins order visits i))

-- the pass of such an input grows by its stride for each packet
pass-grows : (tickets : List ℕ) (earlier : List Turn) (t : Turn) (i : ℕ) → IsStrideTurn tickets earlier t → i < length tickets → AlwaysGets i t.visits
    → pass_at tickets (t ∷ earlier) i ≡ (if is_number i (giver t.visits) then 1 else 0) * stride_at tickets i + pass_at tickets earlier i
pass-grows tickets earlier t i law l gets = by_giver (giver t.visits) refl
  where
    passes : List ℕ
    passes = passes_of tickets earlier

    by_giver : (o : Option ℕ) → giver t.visits ≡ o → pass_at tickets (t ∷ earlier) i ≡ (if is_number i o then 1 else 0) * stride_at tickets i + pass_at tickets earlier i
    by_giver None e = ap (λ p. pass_in p i) (after-none tickets passes t e) ∙ omega arith
    by_giver (Some w) e =
        after-won tickets passes t w i e (subst (λ n. i < n) (sym (passes-length tickets earlier)) l) ∙ (search (rules, visited-wins, false≢true))

range-grows : (tickets : List ℕ) (earlier range : List Turn) (i : ℕ) → EachAfter (IsStrideTurn tickets) earlier range → i < length tickets → AlwaysGets i (all_visits range)
    → pass_at tickets (onto range earlier) i ≡ packets_given i range * stride_at tickets i + pass_at tickets earlier i
range-grows tickets earlier [] i law l gets = omega arith
range-grows tickets earlier (t ∷ range) i law l gets =
    let parts = all-split _ t.visits (all_visits range) gets in
    let now = pass-grows tickets earlier t i law.0 l parts.0 in
    let rest = range-grows tickets (t ∷ earlier) range i law.1 l parts.1 in
    omega (arith, now, rest)

pub stride-shares : (tickets : List ℕ) (turns : List Turn) → EachAfter (IsStrideTurn tickets) [] turns → SharesByStride tickets turns
stride-shares tickets turns law =
    record {
      passes_near =
          λ before after e i j l m. subst (λ earlier. Near (largest_stride tickets) (pass_at tickets earlier i) (pass_at tickets earlier j)) (onto-reverse before)
          (near before after e i j l m, near before after e j i m l);
      served_near = λ before range after e i j l m gets other. served before range after e i j l m gets other;
    }
  where
    split : (before after : List Turn) → turns ≡ before ++ after → EachAfter (IsStrideTurn tickets) [] before × EachAfter (IsStrideTurn tickets) (onto before []) after
    split before after e = each-split (IsStrideTurn tickets) [] before after (subst (EachAfter (IsStrideTurn tickets) []) e law)

    near : (before after : List Turn) → turns ≡ before ++ after → AreNear tickets (onto before [])
    near before after e = near-all tickets [] before (split before after e).0 (near-first tickets)

    served : (before range after : List Turn) → turns ≡ before ++ (range ++ after) → (i j : ℕ) → i < length tickets → j < length tickets
        → AlwaysGets i (all_visits range) → AlwaysGets j (all_visits range) → Near (2 * largest_stride tickets) (packets_given i range * stride_at tickets i) (packets_given j range * stride_at tickets j)
    served before range after e i j l m gets other =
        let part = (each-split (IsStrideTurn tickets) (onto before []) range after (split before (range ++ after) e).1).0 in
        let start = near before (range ++ after) e in
        let stop = near-all tickets (onto before []) range part start in
        let one = range-grows tickets (onto before []) range i part l gets in
        let two = range-grows tickets (onto before []) range j part m other in
        let a = start i j l m in
        let b = start j i m l in
        let c = stop i j l m in
        let d = stop j i m l in
        (omega (arith, one, two, a, b, c, d), omega (arith, one, two, a, b, c, d))
