-- Known bytes that are written piece by piece.
use Rattle.std.proofs.Common.{◌≡◌, ℕ, ◌+◌, ◌<◌, List, [], ◌++◌, length, get_or, take, drop, Option, Some, None, Result, Ok, Err, sym, ap, ◌∙◌}
use Rattle.std.proofs.lemmas.List.{append_assoc, append-nil, take-append-drop, drop_more}
use Rattle.std.proofs.lemmas.List.Concat.{flat_map-append}
use Rattle.std.specs.List.{flat_map}
use Rattle.std.specs.Io.KnownBytes.{Appends}
use Rattle.clk_packet.specs.declared.fault.Fault.{Fault}
use Rattle.clk_packet.specs.Bytes.{Wrote}

-- a front of the text was written, and the rest is left
pub record HasWritten (old new : Option (List ℕ)) (text rest : List ℕ) : Type 0 where
  pub front : List ℕ
  pub split : text ≡ front ++ rest
  pub appends : Appends old new front

pub Appends-append : (a b c : Option (List ℕ)) (xs ys : List ℕ) → Appends a b xs → Appends b c ys → Appends a c (xs ++ ys)
Appends-append None b c xs ys h k = tt
Appends-append (Some old) None c xs ys h k = absurd h
Appends-append (Some old) (Some bs) None xs ys h k = absurd k
Appends-append (Some old) (Some bs) (Some cs) xs ys h k = k ∙ ap (λ l. l ++ ys) h ∙ append_assoc old xs ys

pub HasWritten-more : (old mid new : Option (List ℕ)) (text rest : List ℕ) (n : ℕ) → HasWritten old mid text rest → Appends mid new (take n rest) → HasWritten old new text (drop n rest)
HasWritten-more old mid new text rest n h more =
    record {
      front = h.front ++ take n rest;
      split = h.split ∙ ap (λ l. h.front ++ l) (sym (take-append-drop n rest)) ∙ sym (append_assoc h.front (take n rest) (drop n rest));
      appends = Appends-append old mid new h.front (take n rest) h.appends more;
    }

pub Appends-none : (old : Option (List ℕ)) → Appends old old []
Appends-none None = tt
Appends-none (Some bytes) = sym (append-nil bytes)

-- a text after another that was written
pub Wrote-then : (a b c : Option (List ℕ)) (f g h : ℕ) (x : Unit {0}) (r : Result (Unit {0}) Fault) (xs ys : List ℕ) → Wrote a b f g (Ok x) xs → Wrote b c g h r ys → Wrote a c f h r (xs ++ ys)
Wrote-then a b c f g h x (Ok y) xs ys first w =
    record { whole = Appends-append a b c xs ys first.whole w.whole; front = tt; fault = tt; succeeds = w.succeeds ∙ first.succeeds; fails = tt }
Wrote-then a b c f g h x (Err fault) xs ys first w =
    record {
      whole = tt;
      front = (xs ++ w.front.0, w.front.1, ap (λ l. xs ++ l) w.front.2 ∙ sym (append_assoc xs w.front.0 w.front.1), Appends-append a b c xs w.front.0 first.whole w.front.3);
      fault = w.fault;
      succeeds = tt;
      fails = w.fails ∙ ap (λ n. n + 1) first.succeeds;
    }

-- a text that was cut short, before more
pub Wrote-cut : (a b : Option (List ℕ)) (f g : ℕ) (fault : Fault) (xs ys : List ℕ) → Wrote a b f g (Err fault) xs → Wrote a b f g (Err fault) (xs ++ ys)
Wrote-cut a b f g fault xs ys w =
    record { whole = tt; front = (w.front.0, w.front.1 ++ ys, ap (λ l. l ++ ys) w.front.2 ∙ append_assoc w.front.0 w.front.1 ys, w.front.3); fault = w.fault; succeeds = tt; fails = w.fails }

-- the pieces before a place, the piece there, and those after it
pub flat_map_at : {X : Type 0} (f : X → List ℕ) (xs : List X) (i : ℕ) (d : X) → i < length xs → flat_map f xs ≡ flat_map f (take i xs) ++ (f (get_or xs i d) ++ flat_map f (drop (i + 1) xs))
flat_map_at f xs i d h =
    ap (flat_map f) (sym (take-append-drop i xs)) ∙ flat_map-append f (take i xs) (drop i xs) ∙ ap (λ l. flat_map f (take i xs) ++ flat_map f l) (drop_more xs i d h)
