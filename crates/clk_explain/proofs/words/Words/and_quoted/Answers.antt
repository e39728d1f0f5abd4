use Rattle.std.proofs.Common.{length, codes}
use Rattle.std.proofs.lemmas.Bool.{le-leb, lt-leb}
use Rattle.clk_explain.specs.declared.limits.TheConstants.{MAX_WORDS, MAX_QUOTED}
use Rattle.clk_explain.proofs.WordLemmas.{lines-three}
use Rattle.clk_explain.proofs.words.Words.and_quoted.Goals as goal

pub returns-then-word-le-MAX_QUOTED : goal.returns-then-word-le-MAX_QUOTED
returns-then-word-le-MAX_QUOTED c =
    let three = lines-three MAX_WORDS c.args.self (codes "'") c.parts_at.result.0.now (codes "'") _ _ _ c.and.ensures c.and_bytes-line.ensures c.and-then-word-le-MAX_QUOTED.ensures in
    let whole = rw c.parts_at.ensures.front at three in
    rw (le-leb (length c.args.word.now) MAX_QUOTED c.if-word-le-MAX_QUOTED.true) whole

pub returns-else-word-le-MAX_QUOTED : goal.returns-else-word-le-MAX_QUOTED
returns-else-word-le-MAX_QUOTED c =
    let three = lines-three MAX_WORDS c.args.self (codes "'") c.parts_at.result.0.now (codes "..'") _ _ _ c.and.ensures c.and_bytes-line.ensures c.and-else-word-le-MAX_QUOTED.ensures in
    let part = rw c.parts_at.ensures.front at three in
    rw (lt-leb (length c.args.word.now) MAX_QUOTED c.if-word-le-MAX_QUOTED.false) part
