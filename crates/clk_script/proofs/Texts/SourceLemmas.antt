-- What a script's reading comes to, by what its source gave.
use Rattle.std.proofs.lemmas.Grind.{common_steps}
use Rattle.std.proofs.Common.{◌≡◌, ◌+◌, ◌-◌, ◌≤◌, ℕ, min, nat_lt, true, false, List, [], ◌++◌, length, take, drop, Option, Some, None, Result, Ok, Err, MatchResult, inl, inr, refl, sym, ap, ◌∙◌, append_assoc, append-nil, length-append, arith, rules}
use Rattle.std.specs.Io.KnownBytes.{Consumes, IsAtEnd}
use Rattle.std.proofs.Math.Seq.{take-append_seam}
use Rattle.std.proofs.lemmas.Bool.Decides.{nat_tests}
use Rattle.std.proofs.lemmas.List.{take_all, take-append-drop, length-take-le}
use Rattle.clk_packet.specs.declared.fault.Fault.{Fault}
use Rattle.clk_packet.specs.declared.fault.Fault.TheVariants.{TooLarge}
use Rattle.clk_packet.specs.Bytes.{Takes, read_failures}
use Rattle.clk_script.specs.declared.reading.Script.{Script}
use Rattle.clk_script.specs.Script.{Names, lines_of, first_fault, script_fault}
use Rattle.clk_script.specs.declared.limits.TheConstants.{MAX_SCRIPT_BYTES}
use Rattle.clk_script.specs.inside.Reading.{IsTextOf, EndsAs, IsScriptOf, IsNotRead}
use Rattle.clk_script.proofs.Meanings.RefusalLemmas.{not-read}

-- A source gave a text, and then a piece.
consumed-more : (old now new : Option (List ℕ)) (text piece : List ℕ) → Consumes old now text → Consumes now new piece → Consumes old new (text ++ piece)
consumed-more old now new text piece h k = search (rules, append_assoc)

pub consumed-takes : (old new : Option (List ℕ)) (text : List ℕ) (most : ℕ) → Consumes old new text → length text ≤ most → Takes most old new
consumed-takes old new text most h l = search rules

-- A piece is read into the front of a chunk, for which a script has room.
pub front-is : (size room : ℕ) (chunk buf : List ℕ) → room ≡ min (MAX_SCRIPT_BYTES + 1 - size) 65536 → length chunk ≡ 65536 → length buf ≡ length (take room chunk) → length buf ≡ room
front-is size room chunk buf is chunk_is same = same ∙ length-take-le room chunk (omega (arith, is, chunk_is))

pub front-put : (room : ℕ) (chunk buf : List ℕ) → length buf ≡ length (take room chunk) → length (buf ++ drop room chunk) ≡ length chunk
front-put room chunk buf same = search (rules, common_steps, length-append, take-append-drop)

pub piece-fits : (size room count : ℕ) (chunk buf : List ℕ) → size ≤ MAX_SCRIPT_BYTES + 1 → room ≡ min (MAX_SCRIPT_BYTES + 1 - size) 65536 → length chunk ≡ 65536 → length buf ≡ length (take room chunk) → count ≤ length buf
    → size + count ≤ MAX_SCRIPT_BYTES + 1
piece-fits size room count chunk buf most is chunk_is same bound = let front = front-is size room chunk buf is chunk_is same in omega (arith, most, is, front, bound)

-- With a piece a text is longer by what was read of it.
pub consumed-piece : (old now new : Option (List ℕ)) (text buf : List ℕ) (count size : ℕ) → Consumes old now text → length text ≡ size → Consumes now new (take count buf) → count ≤ length buf
    → Consumes old new (text ++ take count buf) × (length (text ++ take count buf) ≡ size + count)
consumed-piece old now new text buf count size h size_is k bound = search (rules, length-append, length-take-le, consumed-more)

-- What it gave to its end is all that it had, and what it gave beyond the limit is as much as counts.
consumed-all : (old new : Option (List ℕ)) (text : List ℕ) → Consumes old new text → IsAtEnd new → length text ≤ MAX_SCRIPT_BYTES → IsTextOf old text
consumed-all None new text h end l = tt
consumed-all (Some all) None text h end l = absurd h
consumed-all (Some all) (Some rest) text h end l =
    let same : all ≡ text = h ∙ ap (λ r. text ++ r) end ∙ append-nil text in
    sym (ap (take (MAX_SCRIPT_BYTES + 1)) same ∙ take_all (MAX_SCRIPT_BYTES + 1) text (omega (arith, l)))

pub consumed-ended : (old now new : Option (List ℕ)) (text piece : List ℕ) → Consumes old now text → Consumes now new piece → piece ≡ [] → IsAtEnd new → length text ≤ MAX_SCRIPT_BYTES → IsTextOf old text
consumed-ended old now new text piece h k none end l = search (rules, consumed-all, append-nil, consumed-more)

consumed-long : (old new : Option (List ℕ)) (text : List ℕ) → Consumes old new text → length text ≡ MAX_SCRIPT_BYTES + 1 → IsTextOf old text
consumed-long None new text h l = tt
consumed-long (Some all) None text h l = absurd h
consumed-long (Some all) (Some rest) text h l = sym (ap (take (MAX_SCRIPT_BYTES + 1)) h ∙ ap (λ n. take n (text ++ rest)) (sym l) ∙ take-append_seam text rest)

-- A script that isn't too long has the fault of its lines: none where it is what a source had.
small-fault : (names : Names) (text : List ℕ) → length text ≤ MAX_SCRIPT_BYTES → script_fault names text ≡ first_fault names false 1 (lines_of text)
small-fault names text l = let no : nat_lt MAX_SCRIPT_BYTES (length text) ≡ false = grind (arith, nat_tests) in rw no refl

pub source-sound : (names : Names) (known : Option (List ℕ)) (script : Script) (h : IsScriptOf names known script) → script_fault names h.text ≡ None
source-sound names known script h = small-fault names h.text h.short ∙ h.to_end.sound

long-fault : (names : Names) (text : List ℕ) → length text ≡ MAX_SCRIPT_BYTES + 1 → script_fault names text ≡ Some TooLarge
long-fault names text l = let yes : nat_lt MAX_SCRIPT_BYTES (length text) ≡ true = grind (arith, nat_tests) in rw yes refl

pub not-read-long : (names : Names) (old new : Option (List ℕ)) (text : List ℕ) → Consumes old new text → length text ≡ MAX_SCRIPT_BYTES + 1 → IsNotRead names old TooLarge
not-read-long names old new text h l = inr (inr (text, consumed-long old new text h l, long-fault names text l))

pub ended : (names : Names) (known : Option (List ℕ)) (text : List ℕ) (result : Result Script Fault) → IsTextOf known text → length text ≤ MAX_SCRIPT_BYTES → EndsAs names text result → MatchResult result (IsScriptOf names known) (IsNotRead names known)
ended names known text (Ok script) is l h = record { text = text; is_text = is; short = l; to_end = h }
ended names known text (Err fault) is l (inl memory) = inl memory
ended names known text (Err fault) is l (inr e) = inr (inr (text, is, small-fault names text l ∙ e))

pub ended-failures : (names : Names) (text : List ℕ) (result : Result Script Fault) (n : ℕ) → EndsAs names text result → read_failures result n ≡ n
ended-failures names text result n h = search (rules, not-read)
