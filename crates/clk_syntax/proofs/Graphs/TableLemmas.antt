-- Counts of connections, and tables of them.
use Rattle.std.proofs.Common.{◌≡◌, ℕ, ◌≤◌, ◌<◌, ◌+◌, ◌-◌, ◌==◌, suc, max, Bool, true, false, if◌then◌else◌, List, [], ◌∷◌, ◌++◌, drop, length, get_or, set, Option, Some, None, refl, sym, ap, ap₂, ◌∙◌, subst, arith, rules, eq-eqb, eqb-true, below_more}
use Rattle.std.specs.List.{AllByRecursion}
use Rattle.std.proofs.lemmas.Bool.{false≢true}
use Rattle.std.proofs.lemmas.List.{length-drop, length-set, drop_more, get_or_append_left, get_or_push, get_or_read, get_or-set_same, get_or-set_other}
use Rattle.clk_syntax.specs.declared.node.Node.{Node}
use Rattle.clk_syntax.specs.declared.node.Link.{Link}
use Rattle.clk_syntax.specs.declared.checks.tables.InputUse.{InputUse}
use Rattle.clk_syntax.specs.Ports.{target, inputs_used}
use Rattle.clk_syntax.specs.Within.{IsLinkWithin}
use Rattle.clk_syntax.specs.Tables.{count_to, inputs_at, IsTargets, IsInputs}
use Rattle.clk_syntax.proofs.Graphs.FailureLemmas.{all-at}

-- no more connections lead to an element than there are
one-more : (b : Bool) (n m : ℕ) → n ≤ m → (if b then n + 1 else n) ≤ suc m
one-more b n m le = search rules

pub count-few : (i : ℕ) (links : List Link) → count_to i links ≤ length links
count-few i [] = omega arith
count-few i (c ∷ links) = one-more (c.to == i) (count_to i links) (length links) (count-few i links)

pub count-read : (n most k i : ℕ) (links : List Link) (table : List InputUse) (r : InputUse) → IsInputs n (drop k links) table → i < n → r ≡ get_or table i r → length links ≤ most → r.count ≤ most
count-read n most k i links table r is within read few = search (rules, count-few, get_or_read, length-drop)

-- a table that is filled from the first element on, with one element more
pub one-filled : (f : ℕ → ℕ) (n : ℕ) (xs ys : List ℕ) → ys ≡ xs ++ f n ∷ [] → length xs ≡ n → ((i : ℕ) → i < n → get_or xs i 0 ≡ f i) → (i : ℕ) → i < n + 1 → get_or ys i 0 ≡ f i
one-filled f n xs ys is len each =
    below_more (λ i. get_or ys i 0 ≡ f i) n
    (λ i less. ap (λ (t : List ℕ). get_or t i 0) is ∙ get_or_append_left xs (f n ∷ []) 0 i (subst (λ m. i < m) (sym len) less) ∙ each i less)
    (ap (λ (t : List ℕ). get_or t n 0) is ∙ get_or_push xs (f n) 0 n len)

-- the connection before those from a place on
abbrev before : List Link → ℕ → Link → Link
before links k d = get_or links (k - 1) d

pub before-within : (nodes : List Node) (links : List Link) (k : ℕ) (d : Link) → 0 < k → k ≤ length links → AllByRecursion (IsLinkWithin nodes) links → IsLinkWithin nodes (before links k d)
before-within nodes links k d some few within = all-at (IsLinkWithin nodes) links (k - 1) d (omega arith) within

before-first : (links : List Link) (k : ℕ) (d : Link) → 0 < k → k ≤ length links → before links k d ∷ drop k links ≡ drop (k - 1) links
before-first links k d some few =
    let there : k - 1 + 1 ≡ k = omega arith in
    sym (drop_more links (k - 1) d (omega arith) ∙ ap (λ j. before links k d ∷ drop j links) there)

-- tables of the connections from a place on, with the one before them
target-set : (n : ℕ) (c : Link) (links : List Link) (table : List (Option ℕ)) → c.from < n → IsTargets n links table → IsTargets n (c ∷ links) (set table c.from (Some c.to))
target-set n c links table inside is = record { len = length-set table c.from (Some c.to) ∙ is.len; each = λ i small. at i small (c.from == i) refl }
  where
    at : (i : ℕ) → i < n → (b : Bool) → (c.from == i) ≡ b → get_or (set table c.from (Some c.to)) i None ≡ (if b then Some c.to else target i links)
    at i small true e =
        subst (λ k. get_or (set table c.from (Some c.to)) k None ≡ Some c.to) (eqb-true c.from i e) (get_or-set_same table c.from (Some c.to) None (subst (λ m. c.from < m) (sym is.len) inside))
    at i small false e = get_or-set_other table c.from i (Some c.to) None (λ same. false≢true (sym e ∙ eq-eqb c.from i (sym same))) ∙ is.each i small

pub target-before : (nodes : List Node) (links : List Link) (k : ℕ) (d : Link) (table : List (Option ℕ)) → 0 < k → k ≤ length links → AllByRecursion (IsLinkWithin nodes) links
    → IsTargets (length nodes) (drop k links) table → IsTargets (length nodes) (drop (k - 1) links) (set table (before links k d).from (Some (before links k d).to))
target-before nodes links k d table some few within is =
    let c = before links k d in
    subst (λ left. IsTargets (length nodes) left (set table c.from (Some c.to))) (before-first links k d some few)
    (target-set (length nodes) c (drop k links) table (before-within nodes links k d some few within).0 is)

abbrev none : InputUse
none = record { count = 0; end = 0 }

input-set : (n : ℕ) (c : Link) (links : List Link) (table : List InputUse) (r : InputUse) (m : ℕ) → c.to < n → r ≡ get_or table c.to r → m ≡ max r.end (c.input + 1) → IsInputs n links table
    → IsInputs n (c ∷ links) (set table c.to (record { count = r.count + 1; end = m }))
input-set n c links table r m inside read most is = record { len = length-set table c.to used ∙ is.len; each = λ i small. at i small (c.to == i) refl }
  where
    used : InputUse
    used = record { count = r.count + 1; end = m }

    within : c.to < length table
    within = subst (λ l. c.to < l) (sym is.len) inside

    got : r ≡ inputs_at c.to links
    got = get_or_read table c.to r within read none ∙ is.each c.to inside

    end : m ≡ max (c.input + 1) (inputs_used c.to links)
    end = let same : r.end ≡ inputs_used c.to links = ap (λ (x : InputUse). x.end) got in omega (arith, same, most)

    at : (i : ℕ) → i < n → (b : Bool) → (c.to == i) ≡ b
        → get_or (set table c.to used) i none ≡ record { count = if b then count_to i links + 1 else count_to i links; end = if b then max (c.input + 1) (inputs_used i links) else inputs_used i links }
    at i small true e =
        subst (λ k. get_or (set table c.to used) k none ≡ record { count = count_to k links + 1; end = max (c.input + 1) (inputs_used k links) }) (eqb-true c.to i e)
        (get_or-set_same table c.to used none within ∙ ap₂ (λ a b. record { count = a; end = b }) (ap (λ (x : InputUse). x.count + 1) got) end)
    at i small false e = get_or-set_other table c.to i used none (λ same. false≢true (sym e ∙ eq-eqb c.to i (sym same))) ∙ is.each i small

pub input-before : (nodes : List Node) (links : List Link) (k : ℕ) (d : Link) (table : List InputUse) (r : InputUse) (m : ℕ) → 0 < k → k ≤ length links → AllByRecursion (IsLinkWithin nodes) links
    → r ≡ get_or table (before links k d).to r → m ≡ max r.end ((before links k d).input + 1) → IsInputs (length nodes) (drop k links) table
    → IsInputs (length nodes) (drop (k - 1) links) (set table (before links k d).to (record { count = r.count + 1; end = m }))
input-before nodes links k d table r m some few within read most is =
    let c = before links k d in
    subst (λ left. IsInputs (length nodes) left (set table c.to (record { count = r.count + 1; end = m }))) (before-first links k d some few)
    (input-set (length nodes) c (drop k links) table r m (before-within nodes links k d some few within).1 read most is)
