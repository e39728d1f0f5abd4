-- What is put into a line of words (this project's own choice).
use Rattle.std.specs.Prelude.{ℕ, List, ◌++◌, length, take, codes, nat_le, if◌then◌else◌}
use Rattle.clk_explain.specs.declared.limits.TheConstants.{MAX_QUOTED}

-- a word in quotes; of a long word its front, and two dots
abbrev pub quoted : List ℕ → List ℕ
quoted word = codes "'" ++ take MAX_QUOTED word ++ (if nat_le (length word) MAX_QUOTED then codes "'" else codes "..'")
