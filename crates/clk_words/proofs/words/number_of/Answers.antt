use Rattle.std.proofs.Common.{◌∙◌, ap}
use Rattle.std.specs.Option.{option_map_or}
use Rattle.std.specs.Str.Parse.{ExplainsUnsignedError, HasUnsignedDigitsIfOk, ParsesUnsigned}
use Rattle.clap.specs.Matches.{found_of}
use Rattle.clap.proofs.WalkLemmas.{one_text-rows}
use Rattle.clk_words.specs.Words.{number_or_one, within_one_and}
use Rattle.clk_words.proofs.WordLemmas.{option-read}
use Rattle.clk_words.proofs.words.number_of.Goals as goal

pub returns-clause-number : goal.returns-clause-number
returns-clause-number c =
    let rows = one_text-rows (found_of c.args.matches.now) c.args.name.now in
    let read = option-read (λ t r. ParsesUnsigned 32 10 t r × ExplainsUnsignedError 10 t r × HasUnsignedDigitsIfOk t r) _ c.get_one.result c.get_one.ensures.none c.get_one.ensures.value (λ t r h. h.0) in
    c.clamped.ensures.nearest ∙ ap (within_one_and c.args.most) (c.unwrap_or.ensures ∙ (read ∙ ap (λ found. option_map_or number_or_one found 1) rows))
