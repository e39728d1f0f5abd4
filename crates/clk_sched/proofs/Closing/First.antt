-- What is left in the rows of a tree after a run, and that its work is within the closing bound.
use Rattle.std.proofs.Common.{◌≡◌, ℕ, zero, suc, ◌+◌, ◌*◌, ◌-◌, ◌<◌, ◌≤◌, List, [], ◌∷◌, ◌++◌, length, map, reverse, Option, Some, None, is_some, MatchOption, refl, sym, ap, ◌∙◌, subst, add-mul, length-append, arith, rules}
use Rattle.std.specs.List.{flat_map, range_with_len}
use Rattle.std.specs.Bool.{⊤}
use Rattle.clk_packet.specs.declared.packet.Packet.{Packet}
use Rattle.clk_sched.specs.declared.visit.Visit.{Visit}
use Rattle.clk_packet.specs.Scheduler.{Scheduler, drr, HasArguments}
use Rattle.clk_sched.specs.Tree.{Row, end, leaf, node, width, nodes, leaves, height, IsSound}
use Rattle.clk_sched.specs.Turns.{Turn, EachAfter, all_visits}
use Rattle.clk_sched.specs.Heads.{head_at}
use Rattle.clk_sched.specs.Log.{turn, pulls_below}
use Rattle.clk_sched.specs.Laws.{manner, Obeys}
use Rattle.clk_sched.specs.Laws.Deficit.{next_input, arrivals, passed_bytes, quantum_at, deficit_covers}
use Rattle.clk_sched.proofs.Runs.Rows.{EachObeys}
use Rattle.clk_sched.specs.Results.{traced, own_heads, held_at, latest_origin, origin_in}
use Rattle.clk_sched.proofs.Conservation.RowHeads.{row_heads}
use Rattle.clk_sched.specs.Closing.{held_in_all}
use Rattle.clk_sched.proofs.Runs.Allowed.{onto, onto-reverse, each-follows, turns-look}
use Rattle.clk_sched.proofs.Runs.Pulled.{IsPulledIn, pulled-after_leaf, pulled-after_node, pulled-inputs, turns-visits}
use Rattle.clk_sched.proofs.Shares.DeficitShares.{IsDeficitVisit, IsCovered, covers-visit}
use Rattle.clk_sched.proofs.Closing.Visited.{one_if, sum_from}
use Rattle.clk_sched.proofs.Closing.Costs.{CostsAt}
use Rattle.clk_sched.proofs.Closing.Rows.{latest, Amount, sum_of, Costs, AreEnough, EachIsEnough, enough-at}

-- Each head of a DRRSched is covered after k - 1 visits more.
abbrev HeadsAreNear : (k w : ℕ) → List ℕ → List Visit → Type 0
HeadsAreNear k w quanta visits = (i : ℕ) → i < w → MatchOption (head_at i visits) ⊤ (λ p. p.length + passed_bytes i visits ≤ quantum_at quanta i * (arrivals i visits + k))

near-visit : (k w : ℕ) (quanta : List ℕ) (earlier : List Visit) (v : Visit) → ((i : ℕ) → i < w → 65535 ≤ quantum_at quanta i * k) → IsDeficitVisit quanta w earlier v → IsCovered quanta earlier → HeadsAreNear k w quanta earlier
    → HeadsAreNear k w quanta (v ∷ earlier)
near-visit k w quanta earlier v enough law covered near i within = grind arith

near-all : (k w : ℕ) (quanta : List ℕ) (earlier visits : List Visit) → ((i : ℕ) → i < w → 65535 ≤ quantum_at quanta i * k) → EachAfter (IsDeficitVisit quanta w) earlier visits → IsCovered quanta earlier → HeadsAreNear k w quanta earlier
    → HeadsAreNear k w quanta (onto visits earlier)
near-all k w quanta earlier [] enough law covered near = near
near-all k w quanta earlier (v ∷ visits) enough law covered near =
    near-all k w quanta (v ∷ earlier) visits enough law.1 (covers-visit quanta w earlier v law.0 covered) (near-visit k w quanta earlier v enough law.0 covered near)

-- the heads that a scheduler of this class holds at so many inputs
abbrev pub heads_from : Scheduler → List Visit → ℕ → ℕ → ℕ
heads_from (drr quanta) visits first n = sum_from (λ j. one_if (is_some (head_at j visits))) first n
heads_from class visits first n = 0

-- what is known of a scheduler's visits so far
abbrev pub IsNear : (k w : ℕ) → Scheduler → List Visit → Type 0
IsNear k w (drr quanta) visits = HeadsAreNear k w quanta visits × ((i : ℕ) → i < w → 65535 ≤ quantum_at quanta i * k)
IsNear k w class visits = ⊤

-- one input at first, which costs k for each packet left there, beside the work below it
record IsInputFirst (k : ℕ) (class : Scheduler) (visits : List Visit) (i below work_below : ℕ) : Type 0 where
  now : Amount
  costs : CostsAt k class visits i below work_below now.left now.work
  left_is : now.left ≡ below + heads_from class visits i 1
  bound : now.work ≤ work_below + k * now.left

heads-first : (k w : ℕ) (quanta : List ℕ) (visits : List Visit) (i below work_below : ℕ) → i < w → HeadsAreNear k w quanta visits → 65535 ≤ quantum_at quanta i * k → IsInputFirst k (drr quanta) visits i below work_below
heads-first k w quanta visits i below work_below within near large = by_head (head_at i visits) refl (near i within)
  where
    by_head : (o : Option Packet) → head_at i visits ≡ o → MatchOption o ⊤ (λ p. p.length + passed_bytes i visits ≤ quantum_at quanta i * (arrivals i visits + k)) → IsInputFirst k (drr quanta) visits i below work_below
    by_head None e h =
        let none = ap (λ o. one_if (is_some o)) e in
        record {
          now = record { left = below; work = work_below + k * below + 0 };
          costs = record {
            more = 0;
            enough = subst (λ o. MatchOption o ⊤ (λ p. p.length + passed_bytes i visits ≤ quantum_at quanta i * (arrivals i visits + (0 + 1)))) (sym e) tt;
            left_is = omega (arith, none);
            work_is = refl;
          };
          left_is = omega (arith, none);
          bound = omega arith;
        }
    by_head (Some p) e h =
        let one = ap (λ o. one_if (is_some o)) e in
        let some = some-visits k refl in
        record {
          now = record { left = below + 1; work = work_below + k * below + (k - 1) };
          costs = record {
            more = k - 1;
            enough = subst (λ o. MatchOption o ⊤ (λ p. p.length + passed_bytes i visits ≤ quantum_at quanta i * (arrivals i visits + (k - 1 + 1)))) (sym e)
                (subst (λ n. p.length + passed_bytes i visits ≤ quantum_at quanta i * (arrivals i visits + n)) (omega (arith, some)) h);
            left_is = omega (arith, one);
            work_is = refl;
          };
          left_is = omega (arith, one);
          bound = omega (arith, some);
        }
      where
        some-visits : (n : ℕ) → n ≡ k → 1 ≤ n
        some-visits n f = search rules

plain-first : (k : ℕ) (class : Scheduler) (visits : List Visit) (i below work_below : ℕ) → ((l w : ℕ) → CostsAt k class visits i l w l w) → heads_from class visits i 1 ≡ 0 → IsInputFirst k class visits i below work_below
plain-first k class visits i below work_below plainly none =
    record { now = record { left = below; work = work_below }; costs = plainly below work_below; left_is = omega (arith, none); bound = omega arith }

input-first : (k w : ℕ) (class : Scheduler) (visits : List Visit) (i below work_below : ℕ) → i < w → IsNear k w class visits → IsInputFirst k class visits i below work_below
input-first k w class visits i below work_below within near = search (rules, heads-first, plain-first)

heads-more : (class : Scheduler) (visits : List Visit) (first n : ℕ) → heads_from class visits first (suc n) ≡ heads_from class visits first 1 + heads_from class visits (suc first) n
heads-more class visits first n = search rules

-- the heads of a scheduler, counted
length-traced : (o : Option Packet) (origin : Option ℕ) → length (traced o origin) ≡ one_if (is_some o)
length-traced o origin = search rules

length-heads : (log : List Visit) (x : ℕ) (inputs : Row) (a n : ℕ) → length (flat_map (held_at log x inputs) (range_with_len a n)) ≡ sum_from (λ j. one_if (is_some (head_at j (latest log x)))) a n
length-heads log x inputs a zero = refl
length-heads log x inputs a (suc n) =
    let whole = length-append (held_at log x inputs a) (flat_map (held_at log x inputs) (range_with_len (a + 1) n)) in
    let here = length-traced (head_at a (latest log x)) (latest_origin (origin_in log (suc x) inputs a) a (latest log x)) in
    let rest = length-heads log x inputs (a + 1) n in
    let next : sum_from (λ j. one_if (is_some (head_at j (latest log x)))) (a + 1) n ≡ sum_from (λ j. one_if (is_some (head_at j (latest log x)))) (suc a) n = ap (λ m. sum_from (λ j. one_if (is_some (head_at j (latest log x)))) m n) (let e : a + 1 ≡ suc a = omega arith in e) in
    omega (arith, whole, here, rest, next)

length-own : (log : List Visit) (x : ℕ) (class : Scheduler) (inputs : Row) → length (own_heads log x inputs (manner class (width inputs))) ≡ heads_from class (latest log x) 0 (width inputs)
length-own log x class inputs = search (rules, length-heads)

held-append : (held : ℕ → ℕ) (ps qs : List ℕ) → held_in_all held (ps ++ qs) ≡ held_in_all held ps + held_in_all held qs
held-append held [] qs = omega arith
held-append held (p ∷ ps) qs = let rest = held-append held ps qs in omega (arith, rest)

-- the visits of a scheduler in a run are near
node-near : (k : ℕ) (log : List Visit) (above first next : ℕ) (class : Scheduler) (inputs row : Row) (pulled : List (List Visit)) → IsPulledIn log above first next (node class inputs row) pulled
    → Obeys class (width inputs) (map (turn next) (pulls_below above first pulled)) → HasArguments class (width inputs) → AreEnough k class → IsNear k (width inputs) class (latest log next)
node-near k log above first next class inputs row pulled h obeys args enough = by_class class obeys args enough
  where
    turns : List Turn
    turns = map (turn next) (pulls_below above first pulled)

    visits : onto (all_visits turns) [] ≡ latest log next
    visits = onto-reverse (all_visits turns) ∙ ap reverse (turns-visits log above first next class inputs row pulled h)

    by_class : (c : Scheduler) → Obeys c (width inputs) turns → HasArguments c (width inputs) → AreEnough k c → IsNear k (width inputs) c (latest log next)
    by_class (drr quanta) o a e =
        let each : (i : ℕ) → i < width inputs → 65535 ≤ quantum_at quanta i * k = (λ i l. enough-at k i quanta e (let same = a.0 in omega (arith, same, l))) in (
          subst (HeadsAreNear k (width inputs) quanta) visits
              (near-all k (width inputs) quanta [] (all_visits turns) each (turns-look (next_input (width inputs)) (deficit_covers quanta) (width inputs) [] turns (each-follows (drr quanta) (width inputs) turns o)) (λ i. (omega arith, omega arith)) (λ i l. tt)),
          each,
        )
    by_class c o a e = tt

-- A row at first: what its queues and its heads hold is left, and the work is within so much for each packet.
pub record IsRowFirst (k n : ℕ) (held : ℕ → ℕ) (log : List Visit) (class : Scheduler) (above first next : ℕ) (row : Row) : Type 0 where
  pub now : Amount
  pub costs : Costs k held log class above first next row now.left now.work
  pub left_is : now.left ≡ held_in_all held (leaves row) + (heads_from class (latest log above) first (width row) + length (row_heads log next row))
  pub bound : now.work ≤ now.left * (n * k + k)

pub row-first : (row : Row) (k n w : ℕ) (held : ℕ → ℕ) (log : List Visit) (class : Scheduler) (above first next : ℕ) (pulled : List (List Visit)) → first + width row ≤ w → height row ≤ n
    → IsNear k w class (latest log above) → IsPulledIn log above first next row pulled → EachObeys above pulled first next row → IsSound row → EachIsEnough k row → IsRowFirst k n held log class above first next row
row-first end k n w held log class above first next pulled within high near inside obeys sound enough = record { now = record { left = 0; work = 0 }; costs = (refl, refl); left_is = let none = no-heads class in omega (arith, none); bound = omega arith }
  where
    no-heads : (c : Scheduler) → heads_from c (latest log above) first 0 ≡ 0
    no-heads c = search rules
row-first (leaf q row) k n w held log class above first next pulled within high near inside obeys sound enough =
    let here = input-first k w class (latest log above) first (held q) 0 (omega (arith, within)) near in
    let rest = row-first row k n w held log class above (suc first) next pulled (omega (arith, within)) high near (pulled-after_leaf log above first next q row pulled inside) obeys sound enough in
    let one = heads-more class (latest log above) first (width row) in
    let a = here.left_is in
    let c = here.bound in
    record {
      now = record { left = here.now.left + rest.now.left; work = here.now.work + rest.now.work };
      costs = (sum_of here.now rest.now, here.costs, rest.costs);
      left_is = omega (arith, one, a);
      bound = omega (arith, c);
    }
row-first (node c inputs row) k zero w held log class above first next pulled within high near inside obeys sound enough = absurd (omega (arith, high))
row-first (node c inputs row) k (suc n) w held log class above first next pulled within high near inside obeys sound enough =
    let below = row-first inputs k n (width inputs) held log c next 0 (suc next) (pulls_below above first pulled) (omega arith) (omega (arith, high)) (node-near k log above first next c inputs row pulled inside obeys.0 sound.1 enough.0)
    (pulled-inputs log above first next c inputs row pulled inside) obeys.2 sound.2 enough.1 in
    let here = input-first k w class (latest log above) first below.now.left below.now.work (omega (arith, within)) near in
    let rest = row-first row k (suc n) w held log class above (suc first) (suc (next + nodes inputs)) pulled (omega (arith, within)) (omega (arith, high)) near (pulled-after_node log above first next c inputs row pulled inside) obeys.3 sound.3 enough.2 in
    let one = heads-more class (latest log above) first (width row) in
    let a = here.left_is in
    let own = length-own log next c inputs in
    let held_is = held-append held (leaves inputs) (leaves row) in
    let heads_are = length-append (own_heads log next inputs (manner c (width inputs))) (row_heads log (suc next) inputs ++ row_heads log (suc (next + nodes inputs)) row) in
    let more_are = length-append (row_heads log (suc next) inputs) (row_heads log (suc (next + nodes inputs)) row) in
    let more = ap (λ m. m * (suc n * k)) a ∙ add-mul below.now.left (heads_from class (latest log above) first 1) (suc n * k) in
    record {
      now = record { left = here.now.left + rest.now.left; work = here.now.work + rest.now.work };
      costs = (sum_of here.now rest.now, below.now, below.costs, here.costs, rest.costs);
      left_is = omega (arith, one, a, own, held_is, heads_are, more_are);
      bound = omega (arith, more);
    }
