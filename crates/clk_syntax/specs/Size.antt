-- The check of sizes (this project's own limits).
use Rattle.std.specs.Prelude.{ℕ, ◌+◌, List, [], ◌∷◌, length, Bool, false, ◌||◌, nat_lt, if◌then◌else◌, suc, zero}
use Rattle.clk_packet.specs.declared.limits.TheConstants.{MAX_INPUTS, MAX_LEVELS, MAX_ELEMENTS}
use Rattle.clk_syntax.specs.declared.node.Node.{Node}
use Rattle.clk_syntax.specs.declared.node.Link.{Link}
use Rattle.clk_syntax.specs.Ports.{role_at, is_scheduler, inputs_of, next}

-- how many schedulers and Shapers stand on so many steps of the way from an element on, itself among them
abbrev pub levels_from : List Node → List Link → ℕ → ℕ → ℕ
levels_from nodes links zero i = 0
levels_from nodes links (suc steps) i =
    (if is_scheduler (role_at nodes i) then 1 else 0) + levels_from nodes links steps (next links i)

-- how many schedulers and Shapers stand on the whole way from an element on, which has no more elements than there are
abbrev pub levels : List Node → List Link → ℕ → ℕ
levels nodes links i = levels_from nodes links (length nodes) i

-- whether an element has too many inputs, or too many schedulers and Shapers on its way
abbrev pub is_too_large : ℕ → Node → List Node → List Link → Bool
is_too_large i node nodes links = nat_lt MAX_INPUTS (inputs_of i node.role links) || nat_lt MAX_LEVELS (levels nodes links i)

abbrev pub some_too_large : ℕ → List Node → List Node → List Link → Bool
some_too_large i [] nodes links = false
some_too_large i (node ∷ more) nodes links = is_too_large i node nodes links || some_too_large (i + 1) more nodes links

-- fault 18: whether there are too many elements, or one is too large
abbrev pub too_large : List Node → List Link → Bool
too_large nodes links = nat_lt MAX_ELEMENTS (length nodes) || some_too_large 0 nodes nodes links
