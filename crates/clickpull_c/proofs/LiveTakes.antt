-- What a round of only what fits takes into slots, as a call of C sees it.
use Rattle.std.proofs.Common.{◌≡◌, ℕ, ◌-◌, ◌<◌, List, length, map, take, slice_get, sym, subst}
use Rattle.clk_live.specs.State.{LiveState, seen, starts_at, AllGoOn}
use Rattle.clk_live.specs.Taking.{AreTaken, GaveAllThatFits, AreAtMost, AreSharesOr, AreSharesBefore, StartsNext, AllAccepted}
use Rattle.clk_live.specs.declared.taking.Taken.{Taken}
use Rattle.clickpull_c.specs.declared.live.values.CTaken.{CTaken}
use Rattle.clickpull_c.specs.Filled.{IsFilled}
use Rattle.clickpull_c.specs.live.Takes.{most_into, TakesWhatFits}
use Rattle.clickpull_c.specs.live.Values.{taken_in_c}

pub takes-fitting : (each : ℕ) (old new : LiveState) (slots gave : List Taken) (before filled : List CTaken) (given : ℕ) → length slots ≡ most_into before → AreTaken (seen old) (seen new) slots gave given
    → IsFilled before filled (map taken_in_c (take given gave)) → AllGoOn old.outlets new.outlets → AreAtMost each (take given gave)
    → StartsNext old new (length slots) given (slice_get gave (given - 1)) → AllAccepted (take given gave)
    → (given < length slots → AreSharesOr (GaveAllThatFits old new) old.course.setup each (take given gave))
    → AreSharesBefore (GaveAllThatFits old new) old.course.setup (starts_at old) (length old.outlets) each (slice_get gave (given - 1)) (take given gave) → TakesWhatFits each old new before filled given
takes-fitting each old new slots gave before filled given many taken filled_in outlets at_most turn accepted shares in_turn =
    record {
      gave = gave;
      round = record {
        takes = record { slots = slots; many = many; are_taken = taken; are_filled = filled_in; outlets = outlets };
        at_most = at_most;
        turn = subst (λ n. StartsNext old new n given (slice_get gave (given - 1))) many turn;
      };
      accepted = accepted;
      shares = λ fewer. shares (subst (λ n. given < n) (sym many) fewer);
      in_turn = in_turn;
    }
