-- A session that is pulled once each step.
use Rattle.std.proofs.Common.{◌≡◌, ℕ, ◌+◌, ◌*◌, [], ◌∷◌, ◌++◌, length, arith, rules}
use Rattle.std.proofs.Math.Nat.{zero-mul}
use Rattle.std.proofs.lemmas.List.FromFn.{length-map-range_with_len, map-range_with_len_more}
use Rattle.clk_drain.specs.inside.Threads.{Terms, Feed, IsUnpulled, IsPulledAt, IsPulledFor, steps}
use Rattle.clk_drain.proofs.Leaves.Growing.{all-none, all-twice}

-- before the first pull
pub pulled-none : (terms : Terms) (feed : Feed) → IsUnpulled feed → IsPulledFor terms 0 feed feed
pulled-none terms feed h = search (rules, (all-none feed.lines), (zero-mul terms.step))

-- the moments of one pull more
steps-more : (step made : ℕ) → steps step (made + 1) ≡ steps step made ++ (made + 1) * step ∷ []
steps-more step made = map-range_with_len_more (λ k. k * step) 1 made (made + 1) (omega arith)

-- one pull more
pub pulled-more : (terms : Terms) (made : ℕ) (first old new : Feed) → IsPulledFor terms made first old → IsPulledAt ((made + 1) * terms.step) old new → IsPulledFor terms (made + 1) first new
pulled-more terms made first old new h at = search (rules, all-twice, steps-more)

-- A session that was pulled once each step was pulled so often.
pub steps-count : (step made : ℕ) → length (steps step made) ≡ made
steps-count step made = length-map-range_with_len (λ k. k * step) 1 made
