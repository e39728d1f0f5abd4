-- What stays as it was for those who use a queue, where its books go on.
use Rattle.std.proofs.Common.{◌≡◌, ◌≢◌, ℕ, List, [], ◌∷◌, ◌++◌, length, set, rules}
use mathlib.Core.Option.{some, none}
use lib.ListN.{get_elem?}
use Rattle.crossbeam_queue.proofs.Lists.{at_set}
use Rattle.clk_ruled.specs.declared.view.Gathered.{Gathered}
use Rattle.clk_ruled.specs.declared.view.View.{View}
use Rattle.clk_packet.specs.Lists.{of_sender}
use Rattle.clk_ruled.specs.Rule.{Books, IsNew, AreGathered, FitsTap, Fits, evicted_by, taken_in}
use Rattle.clk_ruled.proofs.ListLemmas.{at-end}

abbrev pub All : (ℕ → View → Type 0) → List View → Type 0
All F views = (pass : ℕ) (v : View) → get_elem? views pass ≡ some v → F pass v

-- one view is another, and what was said of the others can be said again
pub all-set : (F G : ℕ → View → Type 0) (views : List View) (pass : ℕ) (w : View) → All F views → G pass w → ((j : ℕ) (u : View) → j ≢ pass → F j u → G j u) → All G (set views pass w)
all-set F G views pass w old mine others j u e = search (rules, at_set)

-- there is one view more
pub all-snoc : (G : ℕ → View → Type 0) (views : List View) (w : View) → All G views → G (length views) w → All G (views ++ w ∷ [])
all-snoc G views w old mine j u e = search (rules, at-end)

-- the books say of the sender what they said
pub record IsSame (b c : Books) (s : ℕ) : Type 0 where
  pub seat : c.seat s ≡ b.seat s
  pub accepted : of_sender s c.all ≡ of_sender s b.all
  pub evicted : evicted_by s c.gone ≡ evicted_by s b.gone

pub new-kept : (b c : Books) (s : ℕ) → IsSame b c s → IsNew b s → IsNew c s
new-kept b c s same n = search rules

abbrev pub LeavesSeatless : Books → Books → Type 0
LeavesSeatless b c = (s : ℕ) → b.seat s ≡ none → IsSame b c s

pub gathered-kept : (b c : Books) (given : List ℕ) (gathered : List Gathered) → LeavesSeatless b c → AreGathered b given gathered → AreGathered c given gathered
gathered-kept b c given [] leaves f = tt
gathered-kept b c given (g ∷ gathered) leaves f = search (rules, (gathered-kept b c given gathered leaves f.2))

pub tap-kept : (b c : Books) (pass : ℕ) (v : View) → c.setup ≡ b.setup → c.tap ≡ b.tap → taken_in c.gone ≡ taken_in b.gone → LeavesSeatless b c → FitsTap b pass v → FitsTap c pass v
tap-kept b c pass v setup tap taken leaves f = search (rules, gathered-kept)

pub seatless-apart : (b : Books) (pass s t : ℕ) → b.seat s ≡ some pass → b.seat t ≡ none → t ≢ s
seatless-apart b pass s t mine empty e = search rules

-- where a seat's step changes what the books say of its sender alone, the others' views stay right
pub others-kept : (b c : Books) (pass s : ℕ) → b.seat s ≡ some pass → c.setup ≡ b.setup → c.tap ≡ b.tap → taken_in c.gone ≡ taken_in b.gone → ((t : ℕ) → t ≢ s → IsSame b c t)
    → (j : ℕ) (u : View) → j ≢ pass → Fits b j u → Fits c j u
others-kept b c pass s mine setup tap taken same j u other f = (
  search rules,
  λ taps. tap-kept b c j u setup tap taken (λ t e. same t (seatless-apart b pass s t mine e)) (f.1 taps),
)
