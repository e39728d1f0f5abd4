-- Texts that are written part by part, and the lines of a report.
use Rattle.std.proofs.Common.{◌≡◌, ℕ, ◌+◌, ◌-◌, ◌≤◌, List, [], ◌∷◌, ◌++◌, All, length, take, drop, append_assoc, codes, decimal, get_or, Option, Err, refl, sym, ap, ap₂, ◌∙◌, arith}
use Rattle.std.proofs.lemmas.List.{append-nil, length-append, drop_all, take_all, take-append-drop}
use Rattle.std.proofs.lemmas.List.Concat.{flat_map-append}
use Rattle.std.specs.List.{flat_map}
use Rattle.std.specs.Io.KnownBytes.{Appends}
use Rattle.std.proofs.lemmas.List.Elements.{All-weaker, All-from_recursion}
use Rattle.clk_packet.specs.Bytes.{AppendsFront, Wrote}
use Rattle.clk_packet.specs.declared.fault.Fault.{Fault}
use Rattle.clk_packet.specs.declared.packet.Packet.{Packet}
use Rattle.clk_packet.specs.declared.tally.Tally.{Tally}
use Rattle.clk_packet.proofs.Callers.Bytes.{HasWritten, Appends-append}
use Rattle.clk_packet.specs.Dealt.{AccountFor, IsDealt}
use Rattle.clk_packet.specs.Lists.{of_sender}
use Rattle.clk_report.specs.inside.Totals.{AccountsBeyond}
use Rattle.clk_report.specs.Report.{tally_text, report_text, total_text, numbers_text}
use Rattle.clk_packet.specs.Counts.{bytes_of, counts_of}
use Rattle.clk_packet.proofs.Callers.Counts.{bytes-append}
use Rattle.clk_report.specs.Counts.{counts_text}

-- one part more is written
pub HasWritten-part : (old mid new : Option (List ℕ)) (text rest part after : List ℕ) → HasWritten old mid text rest → rest ≡ part ++ after → Appends mid new part → HasWritten old new text after
HasWritten-part old mid new text rest part after h is more =
    record {
      front = h.front ++ part;
      split = h.split ∙ ap (λ l. h.front ++ l) is ∙ sym (append_assoc h.front part after);
      appends = Appends-append old mid new h.front part h.appends more;
    }

-- a front of the next part is written, and nothing after it
HasWritten-cut : (old mid new : Option (List ℕ)) (text rest part after : List ℕ) → HasWritten old mid text rest → rest ≡ part ++ after → AppendsFront mid new part → AppendsFront old new text
HasWritten-cut old mid new text rest part after h is cut = (
  h.front ++ cut.0,
  cut.1 ++ after,
  h.split ∙ ap (λ l. h.front ++ l) (is ∙ ap (λ l. l ++ after) cut.2 ∙ append_assoc cut.0 cut.1 after) ∙ sym (append_assoc h.front cut.0 (cut.1 ++ after)),
  Appends-append old mid new h.front cut.0 h.appends cut.3,
)

-- where the sink fails in the next part, so much of the whole is written
pub Wrote-part : (old mid new : Option (List ℕ)) (before now after : ℕ) (fault : Fault) (text rest part left : List ℕ) → HasWritten old mid text rest → now ≡ before → rest ≡ part ++ left
    → Wrote mid new now after (Err fault) part → Wrote old new before after (Err fault) text
Wrote-part old mid new before now after fault text rest part left so_far same is failed =
    record {
      whole = tt;
      front = HasWritten-cut old mid new text rest part left so_far is failed.front;
      fault = failed.fault;
      succeeds = tt;
      fails = failed.fails ∙ ap (λ n. n + 1) same;
    }

-- a list in two parts
pub flat_map-split : {X : Type 0} (f : X → List ℕ) (xs front back : List X) (n : ℕ) → front ≡ take n xs → back ≡ drop n xs → flat_map f xs ≡ flat_map f front ++ flat_map f back
flat_map-split f xs front back n front-is back-is =
    ap (flat_map f) (sym (take-append-drop n xs)) ∙ flat_map-append f (take n xs) (drop n xs) ∙ ap₂ (λ l m. flat_map f l ++ flat_map f m) (sym front-is) (sym back-is)

-- the pieces of a line that is put together from its end
pub line-joined : (a b c d e f g h p q r s t u v w x : List ℕ) → x ≡ a ++ w → w ≡ b ++ v → v ≡ c ++ u → u ≡ d ++ t → t ≡ e ++ s → s ≡ f ++ r → r ≡ g ++ q → q ≡ h ++ p
    → x ≡ (a ++ (b ++ (c ++ (d ++ (e ++ (f ++ (g ++ h))))))) ++ p
line-joined a b c d e f g h p q r s t u v w x x-is w-is v-is u-is t-is s-is r-is q-is =
    x-is ∙ ap (λ l. a ++ l) (w-is ∙ ap (λ l. b ++ l) (v-is ∙ ap (λ l. c ++ l) (u-is ∙ ap (λ l. d ++ l) (t-is ∙ ap (λ l. e ++ l) (s-is ∙ ap (λ l. f ++ l) (r-is ∙ ap (λ l. g ++ l) q-is))))))
    ∙ again
  where
    again : a ++ (b ++ (c ++ (d ++ (e ++ (f ++ (g ++ (h ++ p))))))) ≡ (a ++ (b ++ (c ++ (d ++ (e ++ (f ++ (g ++ h))))))) ++ p
    again = simp append_assoc refl

-- the line of a tally, told by what is counted of it
line-is : (emitted : List Packet) (tally : Tally) → counts_text (counts_of emitted tally) ≡ tally_text emitted tally
line-is emitted tally =
    joined (codes "sender ") (decimal tally.sender) (codes ": sent") sent (codes ", accepted") (total_text tally.accepted) (codes ", refused") (total_text tally.refused) (codes ", evicted") (total_text tally.evicted)
    (codes ", emitted") (total_text (of_sender tally.sender emitted)) (codes "\n") ∙ ap (λ text. codes "sender " ++ (decimal tally.sender ++ (codes ": sent" ++ (text ++ after)))) sent_is
  where
    sent : List ℕ
    sent = numbers_text (length tally.accepted + length tally.refused) (bytes_of tally.accepted + bytes_of tally.refused)

    sent_is : sent ≡ total_text (tally.accepted ++ tally.refused)
    sent_is = ap₂ numbers_text (sym (length-append tally.accepted tally.refused)) (sym (bytes-append tally.accepted tally.refused))

    after : List ℕ
    after =
        codes ", accepted" ++ (total_text tally.accepted ++ (codes ", refused" ++ (total_text tally.refused
        ++ (codes ", evicted" ++ (total_text tally.evicted ++ (codes ", emitted" ++ (total_text (of_sender tally.sender emitted) ++ codes "\n")))))))

    joined : (a b c d e f g h i j k l m : List ℕ) → a ++ (b ++ ((c ++ d) ++ ((e ++ f) ++ ((g ++ h) ++ ((i ++ j) ++ ((k ++ l) ++ m)))))) ≡ a ++ (b ++ (c ++ (d ++ (e ++ (f ++ (g ++ (h ++ (i ++ (j ++ (k ++ (l ++ m)))))))))))
    joined a b c d e f g h i j k l m = simp append_assoc refl

-- the lines of tallies
pub lines-are : (emitted : List Packet) (tallies : List Tally) → flat_map (λ t. counts_text (counts_of emitted t)) tallies ≡ report_text emitted tallies
lines-are emitted tallies = ap (λ (f : Tally → List ℕ). flat_map f tallies) (λ i t. line-is emitted t i)

-- tallies that account for what was emitted do so of each sender
pub all-account : (emitted : List Packet) (tallies : List Tally) → AccountFor emitted tallies → All (AccountsBeyond 0 emitted) tallies
all-account emitted tallies account =
    All-weaker (λ (t : Tally). IsDealt t.accepted t.evicted (of_sender t.sender emitted)) (AccountsBeyond 0 emitted) (λ t dealt beyond. dealt) tallies
    (All-from_recursion (λ (t : Tally). IsDealt t.accepted t.evicted (of_sender t.sender emitted)) tallies account)

-- the text of the first, before those of the others
pub first-alone : {X : Type 0} (f : X → List ℕ) (xs : List X) (x : X) → 1 ≤ length xs → x ≡ get_or xs 0 x → f x ++ flat_map f (take (length xs - 1) (drop 1 xs)) ≡ flat_map f xs
first-alone f [] x some is = absurd (omega (arith, some))
first-alone f (first ∷ xs) x some is =
    ap (λ l. l ++ flat_map f (take (length (first ∷ xs) - 1) xs)) (ap f is) ∙ ap (λ ys. f first ++ flat_map f ys) (take_all (length (first ∷ xs) - 1) xs (omega arith))

-- a text at the end of a buffer is all that stands from there on
pub text-alone : (text from buffer : List ℕ) (n : ℕ) → length buffer ≤ n → from ≡ text ++ drop n buffer → from ≡ text
text-alone text from buffer n full is = is ∙ ap (λ l. text ++ l) (drop_all n buffer full) ∙ append-nil text
