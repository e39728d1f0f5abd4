-- What builders of clap make of a command and its words, and what is read of what was found.
use Rattle.std.proofs.Common.{◌≡◌, ◌∙◌, ◌^◌, ◌||◌, ℕ, Bool, true, false, [], ◌∷◌, Option, Some, None, Result, Ok, Err, refl, ap, ap₂, length, nat_lt, unwrap_or, lt-ltb, ltb-true}
use Rattle.std.specs.Char.{digit_value}
use Rattle.std.specs.List.{list_all}
use Rattle.std.specs.Option.{option_map_or}
use Rattle.std.specs.Str.Parse.{AllDigits, ParsesUnsigned, digits_value, without_leading_plus}
use Rattle.clap.specs.Built.{AddsArg, AddsSubcommand}
use Rattle.clap.specs.Matches.{ReadsOne}
use Rattle.clap.specs.Simple.{App, with_rule, with_subcommand}
use Rattle.clap.specs.Walk.{Rule, Text}
use Rattle.clap.specs.declared.builder.arg.Arg.{Arg}
use Rattle.clap.specs.declared.builder.command.Command.{Command}
use Rattle.clap.proofs.WalkLemmas.{both}
use Rattle.clk_words.specs.Words.{IsWord, Reads, is_number, number_or_one}

-- a word more, and a command more
pub word-more : (old : Command) (arg : Arg) (new : Command) (app : App) (rule : Rule) → AddsArg old arg new → Reads old app → IsWord arg rule → Reads new (with_rule app rule)
word-more old arg new app rule adds reads word = record {
  reads = adds.shape word.local ∙ ap₂ with_rule reads.reads word.reads;
  local = adds.globals ∙ ap₂ ◌||◌ reads.local word.local;
}

pub command-more : (old sub new : Command) (app below : App) → AddsSubcommand old sub new → Reads old app → Reads sub below → Reads new (with_subcommand app below.top)
command-more old sub new app below adds reads reads-below = record {
  reads = adds.shape reads-below.local ∙ ap₂ with_subcommand reads.reads (ap (λ (a : App). a.top) reads-below.reads);
  local = adds.globals ∙ ap₂ ◌||◌ reads.local reads-below.local;
}

-- all are digits, as a test
all-digits : (ds : Text) → AllDigits 10 ds → list_all (λ d. nat_lt (digit_value d) 10) ds ≡ true
all-digits [] h = refl
all-digits (d ∷ ds) h = rw (lt-ltb (digit_value d) 10 h.0) (all-digits ds h.1)

digits-all : (ds : Text) → list_all (λ d. nat_lt (digit_value d) 10) ds ≡ true → AllDigits 10 ds
digits-all [] e = tt
digits-all (d ∷ ds) e =
    let parts = both _ _ e in
    (ltb-true _ _ parts.0, digits-all ds parts.1)

-- the number that is read of a text, and 1 where none is
pub number-read : {E : Type 0} (gives : Text → Result ℕ E → Type 0) (text : Text) (got : Option ℕ) → ((t : Text) (r : Result ℕ E) → gives t r → ParsesUnsigned 32 10 t r) → ReadsOne gives text got → unwrap_or got 1 ≡ number_or_one text
number-read gives text (Some n) parses h =
    let digits = without_leading_plus text in
    let parsed = parses text (Ok n) h in
    rw (lt-ltb 0 (length digits) parsed.0.0.0, all-digits digits parsed.0.0.1, lt-ltb (digits_value 10 digits) (2 ^ 32) parsed.0.1) parsed.1
number-read gives text None parses h = go (is_number (without_leading_plus text)) refl
  where
    go : (b : Bool) → is_number (without_leading_plus text) ≡ b → 1 ≡ number_or_one text
    go false t = rw t refl
    go true t =
        let outer = both _ _ t in
        let inner = both _ _ outer.0 in
        absurd (parses text (Err h.0) h.1 ((ltb-true _ _ inner.0, digits-all (without_leading_plus text) inner.1), ltb-true _ _ outer.1))

-- the number that an option gave, if it gave one, and 1
pub option-read : {E : Type 0} (gives : Text → Result ℕ E → Type 0) (found : Option Text) (got : Option ℕ)
    → (found ≡ None → got ≡ None) → ((t : Text) → found ≡ Some t → ReadsOne gives t got) → ((t : Text) (r : Result ℕ E) → gives t r → ParsesUnsigned 32 10 t r) → unwrap_or got 1 ≡ option_map_or number_or_one found 1
option-read gives None got none value parses = ap (λ o. unwrap_or o 1) (none refl)
option-read gives (Some t) got none value parses = number-read gives t got parses (value t refl)
