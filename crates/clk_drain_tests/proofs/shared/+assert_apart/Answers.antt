use Rattle.std.proofs.Common.{rules, ◌≡◌, ℕ, ◌≤◌, ◌==◌, ◌||◌, false, true, List, [], ◌∷◌, length, get_or, drop, refl, sym, ap, ◌∙◌, subst}
use Rattle.std.proofs.lemmas.List.{take_rest}
use Rattle.std.specs.List.{list_any}
use Rattle.clk_packet.specs.Lists.{stands_in, are_distinct}
use Rattle.clk_packet.proofs.Callers.Lists.{distinct-more}
use Rattle.clk_drain_tests.proofs.shared.+assert_apart.Goals as goal

has-any : (s : ℕ) (senders : List ℕ) → stands_in s senders ≡ list_any (λ t. t == s) senders
has-any s [] = refl
has-any s (t ∷ senders) = ap (λ b. (t == s) || b) (has-any s senders)

apart-more : (senders : List ℕ) → 1 ≤ length senders → list_any (λ t. t == get_or senders 0 0) (drop 1 senders) ≡ false → are_distinct (drop 1 senders) ≡ true → are_distinct senders ≡ true
apart-more [] some none h = refl
apart-more (s ∷ senders) some none h = distinct-more s senders (has-any s senders ∙ none) h

pub returns : goal.returns
returns g t c =
    let rest = take_rest c.args.senders.now 1 in
    let none : c.contains.result ≡ false = search rules in
    apart-more c.args.senders.now c.in-len1-up.len_at_least (subst (λ senders. list_any (λ t. t == get_or c.args.senders.now 0 0) senders ≡ false) rest (sym c.contains.ensures.value ∙ none)) (subst (λ ns. are_distinct ns ≡ true) rest c.assert_apart.ensures)
