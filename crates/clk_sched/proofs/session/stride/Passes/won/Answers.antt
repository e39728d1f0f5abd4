use Rattle.std.proofs.Common.{rules, ◌≡◌, ℕ, ◌<◌, ◌∙◌, List, length, get_or, refl, sym, ap, subst}
use Rattle.std.specs.List.{All}
use Rattle.std.proofs.lemmas.List.Elements.{All-from_recursion, recursion_from_All}
use Rattle.std.proofs.lemmas.List.{get_or_default}
use Rattle.std.proofs.lemmas.Option.{slice_get-get_or}
use Rattle.clk_sched.specs.inside.Ranks.{Ranked, IsRankOf, HasRisingPasses, IsRowWon, after_win, first_pass, from_least}
use Rattle.clk_sched.proofs.Classes.RankLemmas.{read-at, win-from, least-none, win-kept, win-kept_rising}
use Rattle.clk_sched.proofs.Classes.StridePasses.{passes-won}
use Rattle.clk_sched.proofs.Lists.Written.{items-written}
use Rattle.clk_sched.proofs.session.stride.Passes.won.Goals as goal

-- the default of a place that there is
abbrev blank : Ranked
blank = record { pass = 0; input = 0 }

-- the new row, in words of the row and the strides
won-is : (row now ranks : List Ranked) (strides : List ℕ) (stride place input : ℕ) → now ≡ row → stride ≡ get_or strides input stride → input ≡ (get_or now place blank).input → input < length strides → place < length row → IsRowWon place stride now ranks
    → ranks ≡ from_least (after_win (get_or row place blank).pass (get_or strides (get_or row place blank).input 0) place row)
won-is row now ranks strides stride place input same is from within l won =
    subst (λ s. IsRowWon place s now ranks) (is ∙ get_or_default strides input stride 0 within) won (get_or now place blank) (slice_get-get_or now place blank (subst (λ (xs : List Ranked). place < length xs) (sym same) l))
    ∙ ap from_least (win-from row now strides strides place input blank _ same refl from refl)

pub invariant_of-self : goal.invariant_of-self
invariant_of-self c =
    let row = c.args.self.now.row.items in
    let place = c.args.place in
    let winner = get_or row place blank in
    let strides = c.args.self.now.strides.items in
    let stride = get_or strides winner.input 0 in
    let inputs = length strides in
    let input : c.from.result ≡ (get_or c.as_mut_slice-row.result.now place blank).input =
    c.from.ensures ∙ c.input.ensures ∙ ap (λ (r : Ranked). r.input) (read-at c.as_mut_slice-row.result.now place c.index-row-place.result blank (subst (λ (xs : List Ranked). place < length xs) (sym c.as_mut_slice-row.ensures.value) c.requires.place) c.index-row-place.is)
    in
    let asked : c.from.result ≡ winner.input = input ∙ ap (λ xs. (get_or xs place blank).input) c.as_mut_slice-row.ensures.value in
    let is =
    items-written c.args.self.now.row c.win_at.new.row (search rules)
    ∙ won-is row c.as_mut_slice-row.result.now c.win_at.new.row strides c.index-stride.result.now place c.from.result c.as_mut_slice-row.ensures.value c.index-stride.ensures input (subst (λ i. i < length strides) (sym asked) (c.args.self.now.ranks place blank c.requires.place).0) c.requires.place c.win_at.ensures
    in
    let rises = c.args.self.now.rising in
    let ranked = recursion_from_All (IsRankOf inputs) row c.args.self.now.ranks in
    record {
      ranks =
          subst (All (IsRankOf inputs)) (sym is)
          (All-from_recursion (IsRankOf inputs) _
          (win-kept inputs winner.pass stride place row blank (c.args.self.now.bounded winner.input 0 (c.args.self.now.ranks place blank c.requires.place).0) c.requires.place refl ranked rises));
      least = ap first_pass is ∙ least-none (after_win winner.pass stride place row);
      rising = subst HasRisingPasses (sym is) (win-kept_rising winner.pass stride place row rises);
      bounded = c.args.self.now.bounded;
    }

pub returns-clause-holds : goal.returns-clause-holds
returns-clause-holds c tickets turns t holds visits gives =
    let row = c.args.self.now.row.items in
    let place = c.args.place in
    let winner = get_or row place blank in
    let strides = c.args.self.now.strides.items in
    let input : c.from.result ≡ (get_or c.as_mut_slice-row.result.now place blank).input =
    c.from.ensures ∙ c.input.ensures ∙ ap (λ (r : Ranked). r.input) (read-at c.as_mut_slice-row.result.now place c.index-row-place.result blank (subst (λ (xs : List Ranked). place < length xs) (sym c.as_mut_slice-row.ensures.value) c.requires.place) c.index-row-place.is)
    in
    let asked : c.from.result ≡ winner.input = input ∙ ap (λ xs. (get_or xs place blank).input) c.as_mut_slice-row.ensures.value in
    let is =
    items-written c.args.self.now.row c.win_at.new.row (search rules)
    ∙ won-is row c.as_mut_slice-row.result.now c.win_at.new.row strides c.index-stride.result.now place c.from.result c.as_mut_slice-row.ensures.value c.index-stride.ensures input (subst (λ i. i < length strides) (sym asked) (c.args.self.now.ranks place blank c.requires.place).0) c.requires.place c.win_at.ensures
    in
    passes-won tickets turns t c.args.self.now _ place blank holds c.requires.place c.args.self.now.rising visits gives winner.pass (get_or strides winner.input 0) refl refl is refl
