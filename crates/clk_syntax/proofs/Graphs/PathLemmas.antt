-- Many steps at once.
use Rattle.std.proofs.Common.{◌≡◌, ℕ, ◌<◌, ◌+◌, ◌*◌, ◌/◌, ◌%◌, zero, suc, List, length, get_or, ap, ◌∙◌, subst, arith, zero-add, suc-add, rules}
use Rattle.std.specs.List.{AllByRecursion}
use Rattle.clk_syntax.specs.declared.node.Node.{Node}
use Rattle.clk_syntax.specs.declared.node.Link.{Link}
use Rattle.clk_syntax.specs.Within.{IsLinkWithin}
use Rattle.clk_syntax.specs.Ports.{next, follow}
use Rattle.clk_syntax.specs.inside.Checks.{IsFollowed, IsComposed}
use Rattle.clk_syntax.proofs.Graphs.LevelLemmas.{next-within}

pub follow-within : (nodes : List Node) (links : List Link) (steps i : ℕ) → AllByRecursion (IsLinkWithin nodes) links → i < length nodes → follow links steps i < length nodes
follow-within nodes links zero i within inside = inside
follow-within nodes links (suc steps) i within inside = follow-within nodes links steps (next links i) within (next-within i nodes links within inside)

pub follow-add : (links : List Link) (a b i : ℕ) → follow links (a + b) i ≡ follow links b (follow links a i)
follow-add links zero b i = ap (λ n. follow links n i) (zero-add b)
follow-add links (suc a) b i = ap (λ n. follow links n i) (suc-add a b) ∙ follow-add links a b (next links i)

-- where a table leads is among the elements
pub table-within : (nodes : List Node) (links : List Link) (steps : ℕ) (table : List ℕ) → AllByRecursion (IsLinkWithin nodes) links → IsFollowed (length nodes) links steps table
    → (i : ℕ) → i < length table → get_or table i 0 < length nodes
table-within nodes links steps table within is i inside = search (rules, follow-within)

pub leads-on : (nodes : List Node) (links : List Link) (steps b : ℕ) (first second f s : List ℕ) → AllByRecursion (IsLinkWithin nodes) links → IsFollowed (length nodes) links steps first
    → IsFollowed (length nodes) links b second → f ≡ first → s ≡ second → (i : ℕ) → i < length f → get_or f i 0 < length s
leads-on nodes links steps b first second f s within fa fb same also i inside =
    let len = fb.len in
    let lengths : length f ≡ length first = ap length same in
    let others : length s ≡ length second = ap length also in
    let small = table-within nodes links steps first within fa i (omega arith) in
    let here : get_or f i 0 ≡ get_or first i 0 = ap (λ (t : List ℕ). get_or t i 0) same in
    omega arith

pub composed-of : (first second f s table : List ℕ) → f ≡ first → s ≡ second → IsComposed f s table → IsComposed first second table
composed-of first second f s table same also is = subst (λ (t : List ℕ). IsComposed first t table) also (subst (λ (t : List ℕ). IsComposed t s table) same is)

pub follow-composed : (nodes : List Node) (links : List Link) (a b : ℕ) (first second table : List ℕ) → AllByRecursion (IsLinkWithin nodes) links
    → IsFollowed (length nodes) links a first → IsFollowed (length nodes) links b second → IsComposed first second table → IsFollowed (length nodes) links (a + b) table
follow-composed nodes links a b first second table within fa fb is = search (rules, follow-within, follow-add)

-- Tables on the way to as many steps as there are elements: of the steps that were made, and of a step so long that as many as are left
-- make up the rest.
pub record IsHalfway (n : ℕ) (links : List Link) (left : ℕ) (ends step : List ℕ) : Type 0 where
  pub made : ℕ
  pub long : ℕ
  pub all : made + left * long ≡ n
  pub behind : IsFollowed n links made ends
  pub ahead : IsFollowed n links long step

pub halfway-odd : (nodes : List Node) (links : List Link) (left : ℕ) (ends step more twice : List ℕ) → AllByRecursion (IsLinkWithin nodes) links → left % 2 ≡ 1
    → IsComposed ends step more → IsComposed step step twice → IsHalfway (length nodes) links left ends step → IsHalfway (length nodes) links (left / 2) more twice
halfway-odd nodes links left ends step more twice within odd further double half =
    let all = half.all in
    let parts : left ≡ 2 * (left / 2) + 1 = omega arith in
    let rest : left * half.long ≡ (2 * (left / 2) + 1) * half.long = ap (λ x. x * half.long) parts in
    record {
      made = half.made + half.long;
      long = half.long + half.long;
      all = omega arith;
      behind = follow-composed nodes links half.made half.long ends step more within half.behind half.ahead further;
      ahead = follow-composed nodes links half.long half.long step step twice within half.ahead half.ahead double;
    }

pub halfway-even : (nodes : List Node) (links : List Link) (left : ℕ) (ends step twice : List ℕ) → AllByRecursion (IsLinkWithin nodes) links → (left % 2 ≡ 1 → ⊥)
    → IsComposed step step twice → IsHalfway (length nodes) links left ends step → IsHalfway (length nodes) links (left / 2) ends twice
halfway-even nodes links left ends step twice within even double half =
    let all = half.all in
    let parts : left ≡ 2 * (left / 2) = omega arith in
    let rest : left * half.long ≡ (2 * (left / 2)) * half.long = ap (λ x. x * half.long) parts in
    record {
      made = half.made;
      long = half.long + half.long;
      all = omega arith;
      behind = half.behind;
      ahead = follow-composed nodes links half.long half.long step step twice within half.ahead half.ahead double;
    }

-- where two steps lead no further than one, none does that are made of some
pub many-still : (nodes : List Node) (links : List Link) (long left i : ℕ) → AllByRecursion (IsLinkWithin nodes) links → ((k : ℕ) → k < length nodes → follow links long (follow links long k) ≡ follow links long k)
    → 0 < left → i < length nodes → follow links (left * long) i ≡ follow links long i
many-still nodes links long zero i within still some inside = absurd (omega arith)
many-still nodes links long (suc zero) i within still some inside = search (rules, follow-add, follow-within)
many-still nodes links long (suc (suc left)) i within still some inside = search (rules, follow-add, follow-within, (many-still nodes links long (suc left) (follow links long i) within still (omega arith) (follow-within nodes links long i within inside)))

-- and then one more is all that are left
pub halfway-still : (nodes : List Node) (links : List Link) (left : ℕ) (ends step twice table : List ℕ) → AllByRecursion (IsLinkWithin nodes) links → 0 < left
    → IsComposed step step twice → twice ≡ step → IsComposed ends step table → IsHalfway (length nodes) links left ends step → IsFollowed (length nodes) links (length nodes) table
halfway-still nodes links left ends step twice table within some double same further half = search (rules, follow-composed, follow-add, follow-within, many-still)
