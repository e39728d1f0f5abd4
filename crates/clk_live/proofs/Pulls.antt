-- Packets that pulls emitted so far, and one more.
use Rattle.std.proofs.Common.{ℕ, ◌+◌, ◌<◌, List, length, take, set, refl, sym, ◌∙◌, subst, arith}
use Rattle.std.proofs.lemmas.Grind.{drop_more_same}
use Rattle.std.proofs.lemmas.List.{length-set, drop-set-lt, take_more_set}
use Rattle.clk_router.proofs.Callers.Chains.{chain-more}
use Rattle.clk_router.specs.Chains.{IsChain}
use Rattle.clk_live.specs.declared.pulling.Emitted.{Emitted}
use Rattle.clk_live.specs.State.{Seen}
use Rattle.clk_live.specs.Pulling.{Emits}
use Rattle.clk_live.specs.inside.Given.{GaveSoFar}

pub gave-none : (device moment : ℕ) (old : Seen) (before : List Emitted) → GaveSoFar device moment old old before before 0
gave-none device moment old before = record { within = omega arith; many = refl; gave = refl; others = refl }

pub gave-more : (device moment : ℕ) (old mid new : Seen) (before filled : List Emitted) (given : ℕ) (e : Emitted) → given < length filled → GaveSoFar device moment old mid before filled given → Emits device moment mid e new
    → GaveSoFar device moment old new before (set filled given e) (given + 1)
gave-more device moment old mid new before filled given e low so_far one = record {
  within = (let many = so_far.many in omega (arith, low, many));
  many = length-set filled given e ∙ so_far.many;
  gave = subst (λ es. IsChain (Emits device moment) old es new) (sym (take_more_set filled given e low)) (chain-more (Emits device moment) old mid new (take given filled) e so_far.gave one);
  others = drop-set-lt (given + 1) filled given e (omega arith) ∙ drop_more_same filled before given so_far.others;
}
