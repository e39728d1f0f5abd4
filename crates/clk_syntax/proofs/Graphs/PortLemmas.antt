-- Ports that connections use, one after another.
use Rattle.std.proofs.Common.{◌≡◌, ℕ, ◌<◌, ◌==◌, ◌&&◌, ◌||◌, Bool, true, false, not, List, ◌∷◌, length, get_or, set, Option, None, eq-eqb, rules}
use Rattle.std.specs.Option.{option_or, is_some}
use Rattle.std.proofs.lemmas.List.{get_or-set_same, get_or-set_other, length-set}
use Rattle.std.proofs.lemmas.Bool.{cases_eq}
use Rattle.clk_syntax.specs.declared.node.Node.{Node}
use Rattle.clk_syntax.specs.declared.node.Link.{Link}
use Rattle.clk_syntax.specs.Declarations.{first_after, fails_at}
use Rattle.clk_syntax.specs.Ports.{role_at, is_queue, uses_output, uses_input, port_twice}
use Rattle.clk_syntax.specs.inside.Checks.{again}

-- what a connection uses that an earlier one used
abbrev pub used_again : List Node → List Link → Link → Option ℕ
used_again nodes earlier c = option_or (fails_at (uses_output c.from earlier) c.from_place) (fails_at (not (is_queue (role_at nodes c.to)) && uses_input c.to c.input earlier) c.to_place)

-- what was seen of some connections, before those that are left
pub record HasSeen (nodes : List Node) (links left : List Link) (outputs : List Bool) (inputs : ℕ → ℕ → Bool) : Type 0 where
  pub earlier : List Link
  pub len : length outputs ≡ length nodes
  pub by_output : (i : ℕ) → i < length nodes → get_or outputs i false ≡ uses_output i earlier
  pub by_input : (i j : ℕ) → inputs i j ≡ uses_input i j earlier
  pub same : first_after (used_again nodes) earlier left ≡ port_twice nodes links

-- what tables say of a connection
pub seen-again : (nodes : List Node) (links : List Link) (c : Link) (left : List Link) (outputs : List Bool) (inputs : ℕ → ℕ → Bool) (place : Option ℕ) → c.from < length nodes
    → HasSeen nodes links (c ∷ left) outputs inputs → place ≡ again nodes outputs inputs c → is_some place ≡ true → place ≡ port_twice nodes links
seen-again nodes links c left outputs inputs place within seen is some = search rules

-- the tables after one connection more, which uses no port again
pub seen-more : (nodes : List Node) (links : List Link) (c : Link) (left : List Link) (outputs : List Bool) (inputs more : ℕ → ℕ → Bool) → c.from < length nodes
    → again nodes outputs inputs c ≡ None → ((i j : ℕ) → more i j ≡ (((c.to == i) && (c.input == j)) || inputs i j))
    → HasSeen nodes links (c ∷ left) outputs inputs → HasSeen nodes links left (set outputs c.from true) more
seen-more nodes links c left outputs inputs more within fresh adds seen = search (rules, length-set, cases_eq, get_or-set_other, get_or-set_same, eq-eqb)
