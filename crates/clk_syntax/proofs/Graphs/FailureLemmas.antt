-- The first failure of a list, one member after another.
use Rattle.std.proofs.lemmas.Bool.Decides.{nat_tests}
use Rattle.std.proofs.lemmas.Grind.{common_steps}
use Rattle.std.proofs.Common.{◌≡◌, ℕ, ◌<◌, List, [], ◌∷◌, length, get_or, Option, refl, sym, ap, arith}
use Rattle.std.specs.Option.{option_or}
use Rattle.std.specs.List.{AllByRecursion}
use Rattle.clk_syntax.specs.declared.node.Node.{Node}
use Rattle.clk_syntax.specs.declared.node.Link.{Link}
use Rattle.clk_syntax.specs.Declarations.{first_after}
use Rattle.clk_syntax.specs.Ports.{bad_port, wrong_kind}
use Rattle.clk_syntax.specs.inside.Checks.{first_of, bad_link, mixed_link}

-- a failure that doesn't depend on what came before
pub first-of : {A : Type 0} (fails : A → Option ℕ) (earlier xs : List A) → first_after (λ e x. fails x) earlier xs ≡ first_of fails xs
first-of fails earlier [] = refl
first-of fails earlier (x ∷ xs) = ap (option_or (fails x)) (first-of fails (x ∷ earlier) xs)

pub bad-port-first : (nodes : List Node) (links : List Link) → first_of (bad_link nodes) links ≡ bad_port nodes links
bad-port-first nodes links = sym (first-of (bad_link nodes) [] links)

pub wrong-kind-first : (nodes : List Node) (links : List Link) → first_of (mixed_link nodes) links ≡ wrong_kind nodes links
wrong-kind-first nodes links = sym (first-of (mixed_link nodes) [] links)

-- what holds of all holds of the one at a place
pub all-at : {A : Type 0} (P : A → Type 0) (xs : List A) (i : ℕ) (d : A) → i < length xs → AllByRecursion P xs → P (get_or xs i d)
all-at P xs i d within all = grind (arith, common_steps, nat_tests)
