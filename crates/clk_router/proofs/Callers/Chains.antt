-- One more step at the end of a chain.
use Rattle.std.proofs.Common.{◌≡◌, List, [], ◌∷◌, ◌++◌, length, refl, subst, ap, arith}
use Rattle.std.specs.List.{zip}
use Rattle.clk_router.specs.Chains.{IsChain}

pub chain-more : {S X : Type 0} (Step : S → X → S → Type 0) (old mid new : S) (xs : List X) (x : X) → IsChain Step old xs mid → Step mid x new → IsChain Step old (xs ++ x ∷ []) new
chain-more Step old mid new [] x same step = (new, subst (λ c. Step c x new) same step, refl)
chain-more Step old mid new (y ∷ ys) x chain step = (chain.0, chain.1, chain-more Step chain.0 mid new ys x chain.2 step)

-- two lists of one length go on side by side
pub zip-more : {X Y : Type 0} (xs : List X) (ys : List Y) (x : X) (y : Y) → length xs ≡ length ys → zip (xs ++ x ∷ []) (ys ++ y ∷ []) ≡ zip xs ys ++ (x, y) ∷ []
zip-more [] [] x y e = refl
zip-more [] (b ∷ bs) x y e = absurd (omega arith)
zip-more (a ∷ as') [] x y e = absurd (omega arith)
zip-more (a ∷ as') (b ∷ bs) x y e = ap (λ l. (a, b) ∷ l) (zip-more as' bs x y (omega arith))
