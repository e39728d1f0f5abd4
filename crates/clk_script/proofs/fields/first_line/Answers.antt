use Rattle.std.proofs.Common.{arith, ◌<◌, ◌==◌, length, rules}
use Rattle.std.specs.List.{position_or_len}
use Rattle.std.proofs.lemmas.List.{nil_from_length, take_all, take_rest, drop-drop}
use Rattle.clk_script.proofs.Texts.FieldLemmas.{lines-first, lines-last}
use Rattle.clk_script.proofs.fields.first_line.Goals as goal

pub returns-in-empty-clause-line : goal.returns-in-empty-clause-line
returns-in-empty-clause-line c = search (rules, lines-last, nil_from_length, take_all)

pub returns-in-len1-up-clause-line : goal.returns-in-len1-up-clause-line
returns-in-len1-up-clause-line c =
    let text = c.args.text.now in
    let before_end : position_or_len (λ byte. byte == 10) text < length text = omega arith in
    let first = lines-first text before_end in
    let rest = take_rest c.split_at.result.1.now 1 in
    let twice = drop-drop 1 (position_or_len (λ byte. byte == 10) text) text in
    cc
