-- Tables of lengths, and the packets that they stand for.
use Rattle.std.proofs.Common.{◌≡◌, ◌≢◌, ℕ, zero, suc, ◌+◌, ◌<◌, ◌≤◌, ◌==◌, Bool, true, false, List, [], ◌∷◌, ◌++◌, length, get_or, set, slice_get, option_map, Some, Result, Ok, Err, OnOk, OnErr, refl, sym, ap, ◌∙◌, subst, arith}
use Rattle.std.proofs.lemmas.Bool.{false≢true}
use Rattle.std.proofs.lemmas.Bool.Decides.{nat_tests}
use Rattle.std.proofs.lemmas.List.{append-nil, length-append, get_or-set_same, get_or-set_other}
use Rattle.std.proofs.Math.Bridge.{le_prop}
use Rattle.clk_packet.specs.declared.limits.TheConstants.{MAX_LENGTH, MAX_RECORDS}
use Rattle.clk_packet.specs.declared.fault.Fault.{Fault}
use Rattle.clk_packet.specs.declared.lengths.Length.{Length}
use Rattle.clk_packet.specs.declared.packet.Packet.{Packet}
use Rattle.clk_packet.specs.Dealt.{AreNumbered}
use Rattle.clk_packet.specs.Trace.{packets_in, sent_by, sent_from, shown}
use Rattle.clk_packet.specs.inside.Lengths.{IsAdded, IsWider, lengths_in, packet_of, packets_by, packets_from}

-- the packets of a sender in a table
pub sent_by-table : (first : ℕ) (table : List (List Length)) (s : ℕ) → sent_by (packets_by first table) s ≡ packets_from (first + s) 0 (get_or table s [])
sent_by-table first [] s = refl
sent_by-table first (lengths ∷ more) zero = let e : first + 0 ≡ first = omega arith in rw e refl
sent_by-table first (lengths ∷ more) (suc s) = let e : first + 1 + s ≡ first + suc s = omega arith in sent_by-table (first + 1) more s ∙ rw e refl

pub sent_by-of : (table : List (List Length)) (s : ℕ) → sent_by (packets_by 0 table) s ≡ packets_from s 0 (get_or table s [])
sent_by-of table s = let e : 0 + s ≡ s = omega arith in sent_by-table 0 table s ∙ rw e refl

pub length-packets_from : (s n : ℕ) (lengths : List Length) → length (packets_from s n lengths) ≡ length lengths
length-packets_from s n [] = refl
length-packets_from s n (l ∷ more) = let e = length-packets_from s (n + 1) more in omega (arith, e)

pub packets_in-table : (first : ℕ) (table : List (List Length)) → packets_in (packets_by first table) ≡ lengths_in table
packets_in-table first [] = refl
packets_in-table first (lengths ∷ more) = let e = packets_in-table (first + 1) more in let f = length-packets_from first 0 lengths in omega (arith, e, f)

pub shown-more : (s n : ℕ) (lengths : List Length) (l : Length) → shown (packets_from s n (lengths ++ l ∷ [])) ≡ shown (packets_from s n lengths) ++ (s, n + length lengths, l.bytes) ∷ []
shown-more s n [] l = let e : n + 0 ≡ n = omega arith in rw e refl
shown-more s n (first ∷ more) l = let e : n + 1 + length more ≡ n + length (first ∷ more) = omega arith in ap (λ ps. (s, n, first.bytes) ∷ ps) (shown-more s (n + 1) more l ∙ rw e refl)

-- a row that was looked up is that of the sender; there are no lengths where there is no row
pub row-is : (table rows : List (List Length)) (traces : List (List Packet)) (s place : ℕ) (lengths : List Length) → rows ≡ table → packets_by 0 table ≡ traces → place ≡ s → lengths ≡ get_or rows place []
    → sent_by traces s ≡ packets_from s 0 lengths
row-is table rows traces s place lengths same view at is =
    ap (λ t. sent_by t s) (sym view) ∙ sent_by-of table s ∙ ap (packets_from s 0) (sym (is ∙ ap (λ t. get_or t place []) same ∙ ap (λ n. get_or table n []) at))

pub row-count : (traces : List (List Packet)) (s : ℕ) (lengths : List Length) → sent_by traces s ≡ packets_from s 0 lengths → length lengths ≡ length (sent_by traces s)
row-count traces s lengths is = sym (ap length is ∙ length-packets_from s 0 lengths)

-- the packets of a sender are its own, and numbered
numbered-from : (s n : ℕ) (lengths : List Length) → AreNumbered s n (packets_from s n lengths)
numbered-from s n [] = tt
numbered-from s n (l ∷ more) = (refl, refl, subst (λ i. AreNumbered s i (packets_from s (n + 1) more)) (let e : n + 1 ≡ suc n = omega arith in e) (numbered-from s (n + 1) more))

pub numbered-by : (table : List (List Length)) (s : ℕ) → AreNumbered s 0 (sent_by (packets_by 0 table) s)
numbered-by table s = subst (AreNumbered s 0) (sym (sent_by-of table s)) (numbered-from s 0 (get_or table s []))

-- the packet of a number
slice_get-packets_from : (s n : ℕ) (lengths : List Length) (i : ℕ) → slice_get (packets_from s n lengths) i ≡ option_map (packet_of s (n + i)) (slice_get lengths i)
slice_get-packets_from s n [] i = refl
slice_get-packets_from s n (l ∷ more) zero = let e : n + 0 ≡ n = omega arith in rw e refl
slice_get-packets_from s n (l ∷ more) (suc i) = let e : n + 1 + i ≡ n + suc i = omega arith in slice_get-packets_from s (n + 1) more i ∙ rw e refl

pub row-packet : (traces : List (List Packet)) (s n : ℕ) (lengths : List Length) → sent_by traces s ≡ packets_from s 0 lengths → slice_get (sent_by traces s) n ≡ option_map (packet_of s n) (slice_get lengths n)
row-packet traces s n lengths is = let e : 0 + n ≡ n = omega arith in ap (λ ps. slice_get ps n) is ∙ slice_get-packets_from s 0 lengths n ∙ rw e refl

pub packet-made : (s n : ℕ) (l : Length) (some : 1 ≤ l.bytes) (within : l.bytes ≤ MAX_LENGTH)
    → Some (record { number = n; sender = s; length = l.bytes; has_length = some; is_within = within }) ≡ Some (packet_of s n l)
packet-made s n l some within = λ i. Some (record { number = n; sender = s; length = l.bytes; has_length = le_prop some l.has_bytes i; is_within = le_prop within l.is_within i })

-- a sender sends no more than all
pub sent_by-few : (traces : List (List Packet)) (s : ℕ) → length (sent_by traces s) ≤ packets_in traces
sent_by-few [] s = omega arith
sent_by-few (packets ∷ more) zero = omega arith
sent_by-few (packets ∷ more) (suc s) = let e = sent_by-few more s in omega (arith, e)

-- a row without lengths at the end
get_or-row : (table : List (List Length)) (s : ℕ) → get_or (table ++ [] ∷ []) s [] ≡ get_or table s []
get_or-row [] zero = refl
get_or-row [] (suc s) = refl
get_or-row (lengths ∷ more) zero = refl
get_or-row (lengths ∷ more) (suc s) = get_or-row more s

lengths_in-row : (table : List (List Length)) → lengths_in (table ++ [] ∷ []) ≡ lengths_in table
lengths_in-row [] = refl
lengths_in-row (lengths ∷ more) = let e = lengths_in-row more in omega (arith, e)

pub IsWider-row : (table mid : List (List Length)) → IsWider table mid → IsWider table (mid ++ [] ∷ [])
IsWider-row table mid h = record { each = λ s. get_or-row mid s ∙ h.each s; total = lengths_in-row mid ∙ h.total }

-- a length more
lengths_in-set : (table : List (List Length)) (i : ℕ) (lengths : List Length) (l : Length) → i < length table → lengths ≡ get_or table i [] ++ l ∷ [] → lengths_in (set table i lengths) ≡ lengths_in table + 1
lengths_in-set [] i lengths l within is = absurd (omega arith)
lengths_in-set (first ∷ more) zero lengths l within is = let e = ap length is ∙ length-append first (l ∷ []) in omega (arith, e)
lengths_in-set (first ∷ more) (suc i) lengths l within is = let e = lengths_in-set more i lengths l (omega arith) is in omega (arith, e)

pub IsAdded-more : (old table : List (List Length)) (i : ℕ) (lengths : List Length) (l : Length) → IsWider old table → i < length table → lengths ≡ get_or table i [] ++ l ∷ []
    → IsAdded (packets_by 0 old) i l.bytes (packets_by 0 (set table i lengths))
IsAdded-more old table i lengths l wider within is =
    record {
      each = λ s. by_test s (i == s) refl;
      total = packets_in-table 0 (set table i lengths) ∙ lengths_in-set table i lengths l within is ∙ ap (λ n. n + 1) (wider.total ∙ sym (packets_in-table 0 old));
    }
  where
    before : (s : ℕ) → sent_by (packets_by 0 old) s ≡ packets_from s 0 (get_or table s [])
    before s = sent_by-of old s ∙ ap (packets_from s 0) (sym (wider.each s))

    by_test : (s : ℕ) (b : Bool) → (i == s) ≡ b
        → shown (sent_by (packets_by 0 (set table i lengths)) s) ≡ shown (sent_by (packets_by 0 old) s) ++ sent_from s (length (sent_by (packets_by 0 old) s)) ((i, l.bytes) ∷ [])
    by_test s true e =
        let same : i ≡ s = grind (arith, nat_tests) in
        let there : get_or (set table i lengths) s [] ≡ get_or table s [] ++ l ∷ [] =
        ap (λ n. get_or (set table i lengths) n []) (sym same) ∙ get_or-set_same table i lengths [] within ∙ is ∙ ap (λ n. get_or table n [] ++ l ∷ []) same
        in
        let count : length (sent_by (packets_by 0 old) s) ≡ length (get_or table s []) = ap length (before s) ∙ length-packets_from s 0 (get_or table s []) in
        let zeroth : 0 + length (get_or table s []) ≡ length (get_or table s []) = omega arith in
        rw (e, count, before s, sent_by-of (set table i lengths) s, there, ← zeroth) (shown-more s 0 (get_or table s []) l)
    by_test s false e =
        let differs : s ≢ i = λ same. let mine : (i == s) ≡ true = grind (arith, nat_tests) in absurd (false≢true (sym e ∙ mine)) in
        let there : get_or (set table i lengths) s [] ≡ get_or table s [] = get_or-set_other table i s lengths [] differs in
        rw (e, sent_by-of (set table i lengths) s, there, before s) (sym (append-nil (shown (packets_from s 0 (get_or table s [])))))

-- the table has room for a length more
pub wider-few : (old table : List (List Length)) (most : ℕ) → IsWider old table → packets_in (packets_by 0 old) ≤ most → packets_in (packets_by 0 table) ≤ most
wider-few old table most wider few =
    let before = packets_in-table 0 old in
    let after = packets_in-table 0 table in
    let total = wider.total in
    omega (arith, before, after, total, few)

lengths_in-same : (table : List (List Length)) (i : ℕ) → lengths_in (set table i (get_or table i [])) ≡ lengths_in table
lengths_in-same [] i = refl
lengths_in-same (first ∷ more) zero = refl
lengths_in-same (first ∷ more) (suc i) = let e = lengths_in-same more i in omega (arith, e)

pub set-few : (old table : List (List Length)) (i : ℕ) (lengths : List Length) (l : Length) (r : Result (Unit {0}) Fault) → IsWider old table → i < length table → OnOk r (lengths ≡ get_or table i [] ++ l ∷ [])
    → OnErr r (lengths ≡ get_or table i []) → packets_in (packets_by 0 old) < MAX_RECORDS → packets_in (packets_by 0 (set table i lengths)) ≤ MAX_RECORDS
set-few old table i lengths l (Ok x) wider within added same few =
    let before = packets_in-table 0 old in
    let after = packets_in-table 0 (set table i lengths) in
    let total = wider.total in
    let more = lengths_in-set table i lengths l within added in
    omega (arith, before, after, total, more, few)
set-few old table i lengths l (Err fault) wider within added same few =
    let before = packets_in-table 0 old in
    let after = packets_in-table 0 (set table i lengths) in
    let total = wider.total in
    let none = ap (λ ls. lengths_in (set table i ls)) same ∙ lengths_in-same table i in
    omega (arith, before, after, total, none, few)

-- the row at a place that is there, whatever stands for none
pub get_or-there : (table : List (List Length)) (i : ℕ) (lengths other : List Length) → i < length table → lengths ≡ get_or table i lengths → lengths ≡ get_or table i other
get_or-there [] i lengths other within is = absurd (omega arith)
get_or-there (first ∷ more) zero lengths other within is = is
get_or-there (first ∷ more) (suc i) lengths other within is = get_or-there more i lengths other (omega arith) is
