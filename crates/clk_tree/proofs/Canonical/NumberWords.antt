-- The decimal digits of numbers are words, which are read as these numbers.
use Rattle.std.proofs.Common.{◌≡◌, ℕ, ◌<◌, ◌≤◌, ◌^◌, ◌||◌, Bool, true, List, [], ◌∷◌, map, Some, refl, arith, rules}
use Rattle.std.specs.Fmt.{decimal}
use Rattle.std.specs.Char.{is_ascii_digit}
use Rattle.std.specs.List.{AllByRecursion, list_all}
use Rattle.std.specs.Str.{all_ascii_digits}
use Rattle.std.proofs.lemmas.Bool.{and_parts}
use Rattle.clk_packet.proofs.Callers.Numbers.{AreDigits}
use Rattle.clk_syntax.specs.Classes.{numbers_to}
use Rattle.clk_syntax.specs.Tokens.{is_word_byte}
use Rattle.clk_tree.proofs.Callers.Numbers.{decimal-digits, number-again}
use Rattle.clk_tree.proofs.Canonical.CanonicalSource.{IsWordText}
use Rattle.clk_packet.proofs.Callers.Schedulers.{AreTo}

pub below-all : (most n : ℕ) → most < 2 ^ 64 → n ≤ most → n < 2 ^ 64
below-all most n small high = omega arith

pub numbers-again : (most : ℕ) (numbers : List ℕ) → most < 2 ^ 64 → AreTo most numbers → numbers_to most (map decimal numbers) ≡ Some numbers
numbers-again most [] small are = refl
numbers-again most (n ∷ numbers) small are = search (rules, number-again, (numbers-again most numbers small are.1))

-- digits are bytes of words
third : (a b c d : Bool) → c ≡ true → (a || b || c || d) ≡ true
third a b c d e = search rules

digits-letters : (word : List ℕ) → all_ascii_digits word ≡ true → list_all is_word_byte word ≡ true
digits-letters [] are = refl
digits-letters (byte ∷ word) are =
    let parts = and_parts (is_ascii_digit byte) (all_ascii_digits word) are in
    rw (third _ _ _ _ parts.0) (digits-letters word parts.1)

pub decimal-word : (n : ℕ) → n < 2 ^ 64 → IsWordText (decimal n)
decimal-word n below =
    let are : AreDigits (decimal n) = decimal-digits n below in
    record { some = are.some; letters = digits-letters (decimal n) are.all }

pub decimal-words : (most : ℕ) (numbers : List ℕ) → most < 2 ^ 64 → AreTo most numbers → AllByRecursion IsWordText (map decimal numbers)
decimal-words most [] small are = tt
decimal-words most (n ∷ numbers) small are = (decimal-word n (below-all most n small are.0.1), decimal-words most numbers small are.1)
