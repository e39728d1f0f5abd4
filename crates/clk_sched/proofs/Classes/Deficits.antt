-- The row and the cursor of a DRRSched from visit to visit.
use Rattle.std.proofs.lemmas.Grind.{common_steps, elements}
use Rattle.std.proofs.Common.{◌≡◌, ◌≢◌, ℕ, zero, suc, ◌+◌, ◌%◌, ◌≤◌, ◌<◌, ◌==◌, if◌then◌else◌, true, false, List, [], ◌∷◌, map, length, slice_get, slice_set, get_or, Option, Some, is_some, unwrap_or, refl, sym, ap, ap₂, ◌∙◌, subst, arith, rules}
use Rattle.std.specs.List.{AllByRecursion}
use Rattle.std.proofs.lemmas.Bool.{false≢true}
use Rattle.std.proofs.lemmas.Bool.Decides.{nat_tests}
use Rattle.std.proofs.lemmas.List.{length-set, length-map}
use Rattle.std.proofs.lemmas.Option.{slice_get_read, slice_get-map}
use Rattle.std.specs.Global.{Vec}
use Rattle.std.specs.Vec.{with_items}
use Rattle.clk_packet.specs.declared.packet.Packet.{Packet}
use Rattle.clk_packet.specs.declared.limits.TheConstants.{MAX_LENGTH, MAX_INPUTS, MAX_QUANTUM}
use Rattle.clk_sched.specs.declared.session.drr.Served.{Served}
use Rattle.clk_sched.specs.declared.session.drr.Deficits.{Deficits}
use Rattle.clk_sched.specs.declared.visit.Visit.{Visit}
use Rattle.clk_sched.specs.Heads.{head_at}
use Rattle.clk_sched.specs.Laws.Deficit.{next_input, arrives, deficit_covers}
use Rattle.clk_sched.specs.inside.Holds.Served.{AreQuantaWithin, AreDeficitsWithin, AreIdleWithoutDeficits, IsWithoutDeficit, IsArrivedAt, waiting, with_quantum, covers, settled}
use Rattle.clk_sched.specs.inside.Holds.Deficit.{HoldsInput, ahead_at, HoldsDeficits}
use Rattle.clk_sched.specs.inside.Looking.{IsHead}
use Rattle.clk_sched.proofs.Lists.Numbers.{equal, differs}
use Rattle.clk_sched.proofs.Lists.Written.{items-written}
use Rattle.clk_sched.specs.inside.Looking.{is_covered}

-- what is read at a place, as the code reads it
pub row-read : (row lent : List Served) (i place : ℕ) (s : Served) → lent ≡ row → place ≡ i → i < length row → s ≡ get_or lent place s → slice_get row i ≡ Some s
row-read row lent i place s same at within is = slice_get_read row (length row) i s refl within (is ∙ ap₂ (λ xs j. get_or xs j s) same at)

pub read-same : (row : List Served) (i : ℕ) (y s : Served) → slice_get (slice_set row i y) i ≡ Some s → y ≡ s
read-same row i y s e = grind (arith, common_steps, elements, nat_tests, false≢true)

pub read-other : (row : List Served) (i j : ℕ) (y : Served) → j ≢ i → slice_get (slice_set row i y) j ≡ slice_get row j
read-other row i j y d = grind (arith, common_steps, elements, nat_tests)

-- what holds of what is written, and of the others, holds of the row
pub each-written : (P : ℕ → Served → Type 0) (row : List Served) (i : ℕ) (y : Served) → P i y → ((j : ℕ) (s : Served) → j ≢ i → slice_get row j ≡ Some s → P j s)
    → (j : ℕ) (s : Served) → slice_get (slice_set row i y) j ≡ Some s → P j s
each-written P row i y here others j s e = search (rules, read-same, read-other)

-- each place within a row has an input
pub read-some : (row : List Served) (i : ℕ) → i < length row → (s : Served) × (slice_get row i ≡ Some s)
read-some [] i l = absurd (omega arith)
read-some (x ∷ row) zero l = (x, refl)
read-some (x ∷ row) (suc i) l = read-some row i (omega arith)

-- What is added through the slice is added to the row.
pub adds-within : (row : Vec Served) (lent new : List Served) (place i : ℕ) → lent ≡ row.items → length new ≡ length row.items → place ≡ i → IsArrivedAt place lent new → IsArrivedAt i row.items (with_items row new).items
adds-within row lent new place i same long at adds = search (rules, items-written)

-- And so is what is settled at a place.
pub settled-within : (row : Vec Served) (lent : List Served) (place i : ℕ) (new after : Served) → lent ≡ row.items → place ≡ i → new ≡ after → (with_items row (slice_set lent place new)).items ≡ slice_set row.items i after
settled-within row lent place i new after same at is = items-written row (slice_set lent place new) (length-set lent place new ∙ ap length same) ∙ (λ j. slice_set (same j) (at j) (is j))

-- the limits of a row and its cursor
pub record KeepsLimits (cursor : ℕ) (row : List Served) : Type 0 where
  pub few : length row ≤ MAX_INPUTS
  pub cursor_within : cursor < length row
  pub quanta_within : AreQuantaWithin row
  pub deficits_within : AreDeficitsWithin cursor row
  pub idle_without : AreIdleWithoutDeficits cursor row

pub limits-of : (d : Deficits) → KeepsLimits d.cursor d.row.items
limits-of d = record { few = d.few; cursor_within = d.cursor_within; quanta_within = d.quanta_within; deficits_within = d.deficits_within; idle_without = d.idle_without }

-- the sum of deficit and quantum fits
pub sum-fits : (cursor : ℕ) (row : List Served) (i : ℕ) (s : Served) → KeepsLimits cursor row → slice_get row i ≡ Some s → s.deficit + s.quantum < 4294967296
sum-fits cursor row i s h e = search (rules, (h.quanta_within i s e), (h.deficits_within i s e))

-- the limits after a move
pub limits-moved : (cursor : ℕ) (row after : List Served) (i : ℕ) → KeepsLimits cursor row → ((t : Served) → slice_get row cursor ≡ Some t → IsWithoutDeficit t × (t.deficit < MAX_LENGTH)) → i < length row → IsArrivedAt i row after
    → KeepsLimits i after
limits-moved cursor row after i h left within adds =
    subst (KeepsLimits i) (sym (adds s e))
    (record {
      few = subst (λ n. n ≤ MAX_INPUTS) (sym (length-set row i (with_quantum s))) h.few;
      cursor_within = subst (λ n. i < n) (sym (length-set row i (with_quantum s))) within;
      quanta_within = each-written (λ j t. t.quantum ≤ MAX_QUANTUM) row i (with_quantum s) (h.quanta_within i s e) (λ j t other f. h.quanta_within j t f);
      deficits_within =
          each-written (λ j t. t.deficit < MAX_LENGTH + (if j == i then t.quantum else 0)) row i (with_quantum s)
          (subst (λ b. s.deficit + s.quantum < MAX_LENGTH + (if b then s.quantum else 0)) (sym (equal i i refl)) (let l = below i s e in omega (arith, l)))
          (λ j t other f. subst (λ b. t.deficit < MAX_LENGTH + (if b then t.quantum else 0)) (sym (differs j i other)) (let l = below j t f in omega (arith, l)));
      idle_without = each-written (λ j t. j ≢ i → IsWithoutDeficit t) row i (with_quantum s) (λ other. absurd (other refl)) (λ j t other f k. without j t f);
    })
  where
    s : Served
    s = (read-some row i within).0

    e : slice_get row i ≡ Some s
    e = (read-some row i within).1

    below : (j : ℕ) (t : Served) → slice_get row j ≡ Some t → t.deficit < MAX_LENGTH
    below j t f = search (rules, (h.deficits_within j t f))

    without : (j : ℕ) (t : Served) → slice_get row j ≡ Some t → IsWithoutDeficit t
    without j t f = search rules

-- an input of a row before the first arrival
at-waiting : (quanta : List ℕ) (i : ℕ) (s : Served) → slice_get (map waiting quanta) i ≡ Some s → (q : ℕ) × (slice_get quanta i ≡ Some q) × (waiting q ≡ s)
at-waiting quanta i s e = search (rules, slice_get-map, false≢true)

pub none-left : (quanta : List ℕ) (row : List Served) (i : ℕ) (s : Served) → row ≡ map waiting quanta → slice_get row i ≡ Some s → IsWithoutDeficit s × (s.deficit < MAX_LENGTH)
none-left quanta row i s all e = search (rules, at-waiting)

quantum-within : (quanta : List ℕ) (i q : ℕ) → AllByRecursion (λ n. (1 ≤ n) × (n ≤ MAX_QUANTUM)) quanta → slice_get quanta i ≡ Some q → q ≤ MAX_QUANTUM
quantum-within [] i q h e = absurd (false≢true (ap is_some e))
quantum-within (n ∷ quanta) zero q h e = subst (λ m. m ≤ MAX_QUANTUM) (ap (λ o. unwrap_or o n) e) h.0.1
quantum-within (n ∷ quanta) (suc i) q h e = quantum-within quanta i q h.1 e

pub limits-first : (quanta : List ℕ) (row : List Served) → row ≡ map waiting quanta → 1 ≤ length quanta → length quanta ≤ MAX_INPUTS → AllByRecursion (λ n. (1 ≤ n) × (n ≤ MAX_QUANTUM)) quanta
    → KeepsLimits 0 row
limits-first quanta row all some few within = search (rules, at-waiting, quantum-within, none-left, length-map)

-- an input before its first arrival
input-waiting : (quanta : List ℕ) (i : ℕ) (s : Served) → slice_get (map waiting quanta) i ≡ Some s → HoldsInput quanta [] 0 i s
input-waiting quanta i s e = search (rules, at-waiting)

-- an input that is arrived at
input-arrived : (quanta : List ℕ) (before : List Visit) (i : ℕ) (s : Served) → HoldsInput quanta before 0 i s → HoldsInput quanta before 1 i (with_quantum s)
input-arrived quanta before i s h = search rules

-- an input that isn't visited
input-other : (quanta : List ℕ) (before : List Visit) (v : Visit) (i : ℕ) (s : Served) → (v.input == i) ≡ false → HoldsInput quanta before 0 i s → HoldsInput quanta (v ∷ before) 0 i s
input-other quanta before v i s other h = search rules

-- the input that is visited
input-settled : (quanta : List ℕ) (before : List Visit) (v : Visit) (i : ℕ) (s : Served) → (v.input == i) ≡ true → v.passed ≡ covers s v.got → HoldsInput quanta before (arrives before) i s
    → HoldsInput quanta (v ∷ before) 0 i (settled s v.got)
input-settled quanta before v i s here passes h = search rules

-- whether what was got is covered
input-covers : (quanta : List ℕ) (before : List Visit) (i : ℕ) (s : Served) (got : Option Packet) → HoldsInput quanta before (arrives before) i s → covers s got ≡ is_covered (deficit_covers quanta before i) got
input-covers quanta before i s got h = search rules

-- the input at the cursor
at-cursor : (quanta : List ℕ) (inputs : ℕ) (before : List Visit) (d : Deficits) (s : Served) → HoldsDeficits quanta inputs before d → slice_get d.row.items d.cursor ≡ Some s
    → HoldsInput quanta before (arrives before) (next_input inputs before) s
at-cursor quanta inputs before d s h e = grind (arith, nat_tests)

-- the head held there is that of the visits before
pub head-held : (quanta : List ℕ) (inputs : ℕ) (before : List Visit) (d : Deficits) (head : Option Packet) → IsHead d head → HoldsDeficits quanta inputs before d → head ≡ head_at (next_input inputs before) before
head-held quanta inputs before d head is h = let s = read-some d.row.items d.cursor d.cursor_within in sym (is s.0 s.1) ∙ (at-cursor quanta inputs before d s.0 h s.1).head_is

pub deficits-cover : (quanta : List ℕ) (inputs : ℕ) (before : List Visit) (d : Deficits) (s : Served) (got : Option Packet) → HoldsDeficits quanta inputs before d → slice_get d.row.items d.cursor ≡ Some s
    → covers s got ≡ is_covered (deficit_covers quanta before (next_input inputs before)) got
deficits-cover quanta inputs before d s got h e = input-covers quanta before (next_input inputs before) s got (at-cursor quanta inputs before d s h e)

-- a row in which no arrival is counted ahead
abbrev HoldsRow : List ℕ → List Visit → List Served → Type 0
HoldsRow quanta before row = (i : ℕ) (s : Served) → slice_get row i ≡ Some s → HoldsInput quanta before 0 i s

row-settled : (quanta : List ℕ) (inputs : ℕ) (before : List Visit) (v : Visit) (d : Deficits) (s : Served) → HoldsDeficits quanta inputs before d → slice_get d.row.items d.cursor ≡ Some s
    → v.input ≡ next_input inputs before → v.passed ≡ covers s v.got → HoldsRow quanta (v ∷ before) (slice_set d.row.items d.cursor (settled s v.got))
row-settled quanta inputs before v d s h e at passes =
    each-written (HoldsInput quanta (v ∷ before) 0) d.row.items d.cursor (settled s v.got)
    (subst (λ k. HoldsInput quanta (v ∷ before) 0 k (settled s v.got)) (sym h.cursor_is) (input-settled quanta before v turn s (equal v.input turn at) passes (at-cursor quanta inputs before d s h e)))
    (λ j t other f. input-other quanta before v j t (differs v.input j (λ g. other (sym g ∙ at ∙ sym h.cursor_is)))
    (subst (λ n. HoldsInput quanta before n j t) (ap (λ b. if b then arrives before else 0) (differs j turn (λ g. other (g ∙ sym h.cursor_is)))) (h.each j t f)))
  where
    turn : ℕ
    turn = next_input inputs before

-- the row once the next input is arrived at
row-arrived : (quanta : List ℕ) (inputs : ℕ) (before : List Visit) (row : List Served) (s : Served) → HoldsRow quanta before row → slice_get row (next_input inputs before) ≡ Some s → arrives before ≡ 1
    → (i : ℕ) (t : Served) → slice_get (slice_set row (next_input inputs before) (with_quantum s)) i ≡ Some t → HoldsInput quanta before (ahead_at inputs before i) i t
row-arrived quanta inputs before row s h e one =
    each-written (λ i t. HoldsInput quanta before (ahead_at inputs before i) i t) row turn (with_quantum s)
    (subst (λ n. HoldsInput quanta before n turn (with_quantum s)) (sym (ap (λ b. if b then arrives before else 0) (equal turn turn refl) ∙ one)) (input-arrived quanta before turn s (h turn s e)))
    (λ j t other f. subst (λ n. HoldsInput quanta before n j t) (sym (ap (λ b. if b then arrives before else 0) (differs j turn other))) (h j t f))
  where
    turn : ℕ
    turn = next_input inputs before

-- the state before the first visit
pub deficits-first : (quanta : List ℕ) (d : Deficits) (row : List Served) → row ≡ map waiting quanta → 0 < length row → d.cursor ≡ 0 → IsArrivedAt 0 row d.row.items → HoldsDeficits quanta (length quanta) [] d
deficits-first quanta d row all some at adds = record {
  length_is = ap length is ∙ length-set row 0 (with_quantum s) ∙ ap length all ∙ length-map quanta waiting;
  cursor_is = at;
  each = subst (λ xs. (i : ℕ) (t : Served) → slice_get xs i ≡ Some t → HoldsInput quanta [] (ahead_at (length quanta) [] i) i t) (sym is)
      (row-arrived quanta (length quanta) [] row s (subst (HoldsRow quanta []) (sym all) (input-waiting quanta)) e refl);
}
  where
    s : Served
    s = (read-some row 0 some).0

    e : slice_get row 0 ≡ Some s
    e = (read-some row 0 some).1

    is : d.row.items ≡ slice_set row 0 (with_quantum s)
    is = adds s e

-- after a visit that passed the cursor stays
pub deficits-passed : (quanta : List ℕ) (inputs : ℕ) (before : List Visit) (v : Visit) (d e : Deficits) (s : Served) → HoldsDeficits quanta inputs before d → slice_get d.row.items d.cursor ≡ Some s
    → v.input ≡ next_input inputs before → v.passed ≡ covers s v.got → v.passed ≡ true → e.cursor ≡ d.cursor → e.row.items ≡ slice_set d.row.items d.cursor (settled s v.got)
    → HoldsDeficits quanta inputs (v ∷ before) e
deficits-passed quanta inputs before v d e s h read at passes passed stays is = record {
  length_is = ap length is ∙ length-set d.row.items d.cursor (settled s v.got) ∙ h.length_is;
  cursor_is = stays ∙ h.cursor_is ∙ sym at ∙ sym (ap (λ b. if b then v.input else (v.input + 1) % inputs) passed);
  each = λ i t f. subst (λ n. HoldsInput quanta (v ∷ before) n i t) (sym (search rules)) (row-settled quanta inputs before v d s h read at passes i t (subst (λ xs. slice_get xs i ≡ Some t) is f));
}

-- after any other the turn moves on
pub deficits-moved-on : (quanta : List ℕ) (inputs : ℕ) (before : List Visit) (v : Visit) (d e : Deficits) (row : List Served) (s : Served) → HoldsDeficits quanta inputs before d → slice_get d.row.items d.cursor ≡ Some s
    → v.input ≡ next_input inputs before → v.passed ≡ covers s v.got → v.passed ≡ false → row ≡ slice_set d.row.items d.cursor (settled s v.got)
    → e.cursor ≡ (d.cursor + 1) % length row → length e.row.items ≡ length row → IsArrivedAt e.cursor row e.row.items
    → HoldsDeficits quanta inputs (v ∷ before) e
deficits-moved-on quanta inputs before v d e row s h read at passes passed is moves same_length adds = record {
  length_is = same_length ∙ long;
  cursor_is = cursor;
  each = λ i t f. row-arrived quanta inputs (v ∷ before) row next held (subst (λ k. slice_get row k ≡ Some next) cursor reads) (ap (λ b. if b then 0 else 1) passed) i t
      (subst (λ xs. slice_get xs i ≡ Some t) (adds next reads ∙ ap (λ k. slice_set row k (with_quantum next)) cursor) f);
}
  where
    long : length row ≡ inputs
    long = ap length is ∙ length-set d.row.items d.cursor (settled s v.got) ∙ h.length_is

    cursor : e.cursor ≡ next_input inputs (v ∷ before)
    cursor = moves ∙ ap₂ (λ k n. (k + 1) % n) (h.cursor_is ∙ sym at) long ∙ sym (ap (λ b. if b then v.input else (v.input + 1) % inputs) passed)

    within : e.cursor < length row
    within = subst (λ n. e.cursor < n) same_length e.cursor_within

    next : Served
    next = (read-some row e.cursor within).0

    reads : slice_get row e.cursor ≡ Some next
    reads = (read-some row e.cursor within).1

    held : HoldsRow quanta (v ∷ before) row
    held = subst (HoldsRow quanta (v ∷ before)) (sym is) (row-settled quanta inputs before v d s h read at passes)
