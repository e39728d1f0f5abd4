-- The same connections in another order, and with other places.
use Rattle.std.proofs.Common.{◌≡◌, ◌⊎◌, List, [], ◌∷◌, map}
use Rattle.std.specs.List.{AllByRecursion}
use Rattle.clk_syntax.specs.declared.naming.class.Role.{Role}
use Rattle.clk_syntax.specs.declared.node.Node.{Node}
use Rattle.clk_syntax.specs.declared.node.Link.{Link}
use Rattle.clk_tree.proofs.Distinct.DistinctPlans.{Once}

pub record IsAlike (c d : Link) : Type 0 where
  pub from : c.from ≡ d.from
  pub output : c.output ≡ d.output
  pub input : c.input ≡ d.input
  pub to : c.to ≡ d.to

-- one like this is among some
abbrev pub Occurs : Link → List Link → Type 0
Occurs c [] = ⊥
Occurs c (d ∷ more) = IsAlike c d ⊎ Occurs c more

-- These have those connections, and no others; and each output is connected once.
pub record IsRewired (links others : List Link) : Type 0 where
  pub kept : AllByRecursion (λ c. Occurs c others) links
  pub came : AllByRecursion (λ d. Occurs d links) others
  pub once : Once others

abbrev pub role_in : Node → Role
role_in n = n.role

-- the same elements at other places
abbrev pub AreSameNodes : List Node → List Node → Type 0
AreSameNodes nodes others = map role_in others ≡ map role_in nodes
