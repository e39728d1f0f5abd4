-- How the logic stores a tree: as a list of tokens, each before the rows that it is over.
use Rattle.std.specs.Prelude.{◌≡◌, ℕ, ◌==◌, List, [], ◌∷◌, cond, unwrap_or, slice_get, refl}
use Rattle.std.proofs.Common.{ap, ◌∙◌}
use Rattle.std.specs.Coded.{Coded, code_by, coded×, coded_ℕ, coded_list}
use Rattle.clk_packet.specs.Scheduler.{Scheduler, prio, round_robin, drr, stride, shaper}
use Rattle.clk_sched.specs.Tree.{Row, end, leaf, node, Tree, queue, scheduler, root}

-- a token: what it stands for, and its arguments
abbrev Token : Type 0
Token = ℕ × List ℕ

abbrev class_token : Scheduler → Token
class_token prio = (2, [])
class_token round_robin = (3, [])
class_token (drr quanta) = (4, quanta)
class_token (stride tickets) = (5, tickets)
class_token (shaper rate burst) = (6, rate ∷ burst ∷ [])

abbrev argument : ℕ → List ℕ → ℕ
argument place arguments = unwrap_or (slice_get arguments place) 0

abbrev token_class : Token → Scheduler
token_class t =
    cond (t.0 == 2) prio (cond (t.0 == 3) round_robin (cond (t.0 == 4) (drr t.1) (cond (t.0 == 5) (stride t.1) (shaper (argument 0 t.1) (argument 1 t.1)))))

-- the tokens of a row, before those of what follows
abbrev tokens : Row → List Token → List Token
tokens end more = (0, []) ∷ more
tokens (leaf q row) more = (1, q ∷ []) ∷ tokens row more
tokens (node class inputs row) more = class_token class ∷ tokens inputs (tokens row more)

abbrev over_two : Scheduler → Row → List Row → List Row
over_two class inputs [] = []
over_two class inputs (row ∷ rows) = node class inputs row ∷ rows

abbrev over_one : Token → List Row → List Row
over_one t [] = []
over_one t (row ∷ rows) = cond (t.0 == 1) (leaf (argument 0 t.1) row ∷ rows) (over_two (token_class t) row rows)

-- a token over the rows that stand after it
abbrev put : Token → List Row → List Row
put t rows = cond (t.0 == 0) (end ∷ rows) (over_one t rows)

abbrev rows_of : List Token → List Row
rows_of [] = []
rows_of (t ∷ more) = put t (rows_of more)

abbrev tree_of : List Row → Tree
tree_of [] = queue 0
tree_of (end ∷ rows) = queue 0
tree_of (leaf q row ∷ rows) = queue q
tree_of (node class inputs row ∷ rows) = scheduler class inputs

put-class_token : (c : Scheduler) (inputs row : Row) (rows : List Row) → put (class_token c) (inputs ∷ row ∷ rows) ≡ node c inputs row ∷ rows
put-class_token (drr quanta) inputs row rows = refl
put-class_token c inputs row rows = refl

rows_of-tokens : (row : Row) (more : List Token) → rows_of (tokens row more) ≡ row ∷ rows_of more
rows_of-tokens end more = refl
rows_of-tokens (leaf q row) more = ap (put (1, q ∷ [])) (rows_of-tokens row more)
rows_of-tokens (node class inputs row) more =
    ap (put (class_token class)) (rows_of-tokens inputs (tokens row more) ∙ ap (λ rows. inputs ∷ rows) (rows_of-tokens row more))
    ∙ put-class_token class inputs row (rows_of more)

pub tree_of-tokens : (t : Tree) → tree_of (rows_of (tokens (root t) [])) ≡ t
tree_of-tokens (queue q) = ap tree_of (rows_of-tokens (root (queue q)) [])
tree_of-tokens (scheduler class inputs) = ap tree_of (rows_of-tokens (root (scheduler class inputs)) [])

abbrev pub tree_code : Coded Tree
tree_code = code_by (List Token) (coded_list (coded× coded_ℕ (coded_list coded_ℕ))) (λ t. tokens (root t) []) (λ ts. tree_of (rows_of ts)) tree_of-tokens
