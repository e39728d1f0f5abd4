-- Bytes that are added to a record, one line after another.
use Rattle.std.proofs.Common.{◌≡◌, ℕ, zero, suc, ◌+◌, ◌-◌, ◌*◌, ◌<◌, ◌≤◌, ◌||◌, List, [], ◌∷◌, ◌++◌, length, take, drop, map, replicate, get_or, None, refl, sym, ap, ◌∙◌, length-append, arith}
use Rattle.std.specs.List.{list_any}
use Rattle.std.proofs.lemmas.List.{take-append-le, take-append-drop, take-take, map-append, length-take-le, replicate-append-replicate}
use Rattle.clk_script.specs.declared.script.Command.{Command}
use Rattle.clk_script.specs.Record.{command_text, record_text}
use Rattle.clk_script.proofs.Callers.Records.{command-more, front-shorter}
use Rattle.clickpull_c.specs.Recording.{IsAdded, lacks_length, send_of}
use Rattle.clickpull_c.specs.declared.values.CPacket.{CPacket}
use Rattle.clickpull_c.proofs.Fills.{front-more}

-- the used bytes are as they were
pub added-keeps : (bytes before after : List ℕ) (used end : ℕ) → IsAdded bytes before after used end → length after ≡ length before → take used after ≡ take used before
added-keeps bytes before after used end h same =
    let e = h.end_is in
    let w = h.within in
    let low : used ≤ length before = omega (arith, e, w) in
    let front : length (take used before) ≡ used = length-take-le used before low in
    sym (take-take used end after (omega (arith, e))) ∙ ap (take used) h.is ∙ take-append-le used (take used before) bytes (omega (arith, front)) ∙ take-take used used before (omega arith)

-- the line of the next of some items
pub sends-more : {X : Type 0} (f : X → Command) (xs : List X) (n : ℕ) (x : X) (c : Command) → n < length xs → get_or xs n x ≡ x → c ≡ f x
    → record_text (map f (take (n + 1) xs)) None ≡ record_text (map f (take n xs)) None ++ command_text c
sends-more f xs n x c low is its = ap (λ l. record_text l None) (front-more f xs n x c low is its) ∙ command-more (map f (take n xs)) c

pub sends-front : {X : Type 0} (f : X → Command) (xs : List X) (n : ℕ) → length (record_text (map f (take n xs)) None) ≤ length (record_text (map f xs) None)
sends-front f xs n =
    let all = ap (λ l. length (record_text (map f l) None)) (sym (take-append-drop n xs)) ∙ ap (λ l. length (record_text l None)) (map-append f (take n xs) (drop n xs)) in
    let low = front-shorter (map f (take n xs)) (map f (drop n xs)) in
    omega (arith, all, low)

-- the line of the next of some pulls
pub pulls-more : (n : ℕ) (c : Command) → record_text (replicate (n + 1) c) None ≡ record_text (replicate n c) None ++ command_text c
pulls-more n c = ap (λ l. record_text l None) (sym (replicate-append-replicate n 1 c)) ∙ command-more (replicate n c) c

pub pulls-front : (n m : ℕ) (c : Command) → n ≤ m → length (record_text (replicate n c) None) ≤ length (record_text (replicate m c) None)
pulls-front n m c low =
    let sum : n + (m - n) ≡ m = omega (arith, low) in
    let all = ap (λ l. length (record_text l None)) (replicate-append-replicate n (m - n) c ∙ ap (λ k. replicate k c) sum) in
    let front = front-shorter (replicate n c) (replicate (m - n) c) in
    omega (arith, all, front)

-- the lines of some pulls are short where each is
pub pulls-short : (n : ℕ) (c : Command) → length (command_text c) ≤ 25 → length (record_text (replicate n c) None) ≤ n * 25
pulls-short zero c short = omega arith
pulls-short (suc n) c short =
    let more = ap length (pulls-more n c) in
    let both = length-append (record_text (replicate n c) None) (command_text c) in
    let rest = pulls-short n c short in
    let e : suc n ≡ n + 1 = omega arith in
    let one = ap (λ k. length (record_text (replicate k c) None)) e in
    omega (arith, one, more, both, rest, short)

-- the commands of some packets, and whether one has no length
pub sends-mapped : {X : Type 0} (f : X → CPacket) (xs : List X) → map (λ x. send_of (f x)) xs ≡ map send_of (map f xs)
sends-mapped f [] = refl
sends-mapped f (x ∷ xs) = ap (λ l. send_of (f x) ∷ l) (sends-mapped f xs)

pub lack-mapped : {X : Type 0} (f : X → CPacket) (xs : List X) → list_any (λ x. lacks_length (f x)) xs ≡ list_any lacks_length (map f xs)
lack-mapped f [] = refl
lack-mapped f (x ∷ xs) = ap (λ b. lacks_length (f x) || b) (lack-mapped f xs)
