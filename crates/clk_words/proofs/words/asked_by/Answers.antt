use Rattle.std.proofs.Common.{◌≡◌, ◌∙◌, ◌||◌, ap, ap₂, map, refl, subst, sym, true}
use Rattle.std.proofs.lemmas.Result.{err_from_is_err_and}
use Rattle.std.specs.String.{string_bytes}
use Rattle.clap.specs.Faults.{fault_of, is_simple_and_free}
use Rattle.clap.specs.Kinds.{HasKind}
use Rattle.clap.specs.Simple.{App, is_simple, matches_of, subcommand_of}
use Rattle.clk_words.specs.Words.{explains, program_words}
use Rattle.clk_words.specs.inside.Found.{explains_below, task_of}
use Rattle.clk_words.proofs.words.asked_by.Goals as goal

is-free : is_simple_and_free program_words ≡ true
is-free = refl

is-plain : is_simple program_words ≡ true
is-plain = refl

pub returns-in_err-matches-clause-refused : goal.returns-in_err-matches-clause-refused
returns-in_err-matches-clause-refused c =
    let reads = c.in_ok-program.ensures.reads in
    let p = err_from_is_err_and c.from_residual-in_err-matches.result c.from_residual-in_err-matches.ensures.1 in
    rw (p.1, p.2)
    (subst (λ (app : App). HasKind (fault_of app (map string_bytes c.args.words.now)) c.in_err-matches.field-0.0) reads (c.in_err-matches.ensures.kinds (ap is_simple_and_free reads ∙ is-free)))

pub returns-clause-asked : goal.returns-clause-asked
returns-clause-asked c =
    let reads = c.in_ok-program.ensures.reads in
    let found = c.in_ok-matches.ensures.matches (ap is_simple reads ∙ is-plain) in
    c.asked_of.ensures ∙ ap task_of (found.1 ∙ ap (λ app. subcommand_of app (map string_bytes c.args.words.now)) reads)

pub returns-clause-explained : goal.returns-clause-explained
returns-clause-explained c =
    let reads = c.in_ok-program.ensures.reads in
    let found = c.in_ok-matches.ensures.matches (ap is_simple reads ∙ is-plain) in
    c.is_explained.ensures ∙ ap₂ (λ own below. explains own || explains_below below)
    (found.0 ∙ ap (λ app. matches_of app (map string_bytes c.args.words.now)) reads)
    (found.1 ∙ ap (λ app. subcommand_of app (map string_bytes c.args.words.now)) reads)

pub returns-clause-refused : goal.returns-clause-refused
returns-clause-refused c =
    let reads = c.in_ok-program.ensures.reads in
    ap (λ app. fault_of app (map string_bytes c.args.words.now)) (sym reads) ∙ c.in_ok-matches.ensures.kinds (ap is_simple_and_free reads ∙ is-free)
