-- The way from an element on, and what stands on it.
use Rattle.std.proofs.Common.{◌≡◌, ℕ, ◌≤◌, ◌<◌, ◌+◌, ◌-◌, zero, suc, Bool, false, if◌then◌else◌, List, [], ◌∷◌, length, Some, None, unwrap_or, refl, ap, rules}
use Rattle.std.specs.List.{AllByRecursion}
use Rattle.clk_syntax.specs.declared.node.Node.{Node}
use Rattle.clk_syntax.specs.declared.node.Link.{Link}
use Rattle.clk_syntax.specs.Within.{IsLinkWithin}
use Rattle.clk_syntax.specs.Ports.{role_at, is_scheduler, next, target}
use Rattle.clk_syntax.specs.Size.{levels_from}

-- where an element leads
pub next-some : (i t : ℕ) (links : List Link) → target i links ≡ Some t → next links i ≡ t
next-some i t links e = ap (λ o. unwrap_or o i) e

pub next-none : (i : ℕ) (links : List Link) → target i links ≡ None → next links i ≡ i
next-none i links e = ap (λ o. unwrap_or o i) e

pub next-within : (i : ℕ) (nodes : List Node) (links : List Link) → AllByRecursion (IsLinkWithin nodes) links → i < length nodes → next links i < length nodes
next-within i nodes [] within inside = inside
next-within i nodes (c ∷ links) within inside = search (rules, (next-within i nodes links within.1))

-- one step of the way
abbrev pub counting : Bool → ℕ
counting b = if b then 1 else 0

abbrev pub counted : List Node → ℕ → ℕ
counted nodes i = counting (is_scheduler (role_at nodes i))

pub counts-one : (nodes : List Node) (i level : ℕ) → level ≡ counted nodes i → level ≤ 1
counts-one nodes i level here = search rules

-- from an element that leads nowhere, and doesn't count, nothing counts
pub levels-none : (nodes : List Node) (links : List Link) (left i : ℕ) → next links i ≡ i → is_scheduler (role_at nodes i) ≡ false → levels_from nodes links left i ≡ 0
levels-none nodes links zero i stays none = refl
levels-none nodes links (suc left) i stays none = search (rules, (levels-none nodes links left i stays none))

-- what was counted, with what is left, before an element and after it
pub counts-on : (nodes : List Node) (links : List Link) (count left i j level total : ℕ) → 0 < left → next links i ≡ j → level ≡ counted nodes i
    → count + levels_from nodes links left i ≡ total → (count + level) + levels_from nodes links (left - 1) j ≡ total
counts-on nodes links count left i j level total some leads here sum = search rules

pub counts-end : (nodes : List Node) (links : List Link) (count left i level total : ℕ) → next links i ≡ i → level ≡ counted nodes i → level ≡ 0
    → count + levels_from nodes links left i ≡ total → count + level ≡ total
counts-end nodes links count left i level total stays here none sum = search (rules, levels-none)
