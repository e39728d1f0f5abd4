-- Lines that are passed on one after another.
use Rattle.std.proofs.lemmas.Grind.{common_steps}
use Rattle.std.proofs.Common.{◌≡◌, ℕ, ◌+◌, ◌-◌, ◌<◌, List, [], ◌++◌, length, take, drop, get_or, Option, Result, Ok, Err, sym, ap, subst, ◌∙◌, append_assoc, append-nil, rules}
use Rattle.std.specs.List.{flat_map}
use Rattle.std.specs.Io.KnownBytes.{Appends}
use Rattle.std.proofs.Math.Seq.{drop-length}
use Rattle.std.proofs.lemmas.List.{drop_more, take_all, length-drop}
use Rattle.clk_packet.specs.declared.fault.Fault.{Fault}
use Rattle.clk_packet.specs.Bytes.{Wrote, AppendsFront}
use Rattle.clk_packet.proofs.Callers.Bytes.{Appends-append, Wrote-cut}
use Rattle.clk_script.specs.inside.Lines.{PassesOn}

-- What was held and a text were written, and nothing is held.
pub PassesOn-wrote : (old new : Option (List ℕ)) (f g : ℕ) (r : Result (Unit {0}) Fault) (held text holds : List ℕ) → Wrote old new f g r (held ++ text) → holds ≡ [] → PassesOn old new f g r held text holds
PassesOn-wrote old new f g r held text holds w none = search (rules, append-nil)

-- What was held was cut short.
pub PassesOn-failed : (old new : Option (List ℕ)) (f g : ℕ) (fault : Fault) (held text holds : List ℕ) → Wrote old new f g (Err fault) held → PassesOn old new f g (Err fault) held text holds
PassesOn-failed old new f g fault held text holds w =
    let cut = Wrote-cut old new f g fault held text w in
    record { passed = tt; front = cut.front; fault = cut.fault; succeeds = tt; fails = cut.fails }

-- a front of a text, after one that was written
pub front-after : (a b c : Option (List ℕ)) (written text : List ℕ) → Appends a b written → AppendsFront b c text → AppendsFront a c (written ++ text)
front-after a b c written text h k = (written ++ k.0, k.1, ap (λ l. written ++ l) k.2 ∙ sym (append_assoc written k.0 k.1), Appends-append a b c written k.0 h k.3)

-- A text after another that was passed on.
pub PassesOn-then : (a b c : Option (List ℕ)) (f g h : ℕ) (x : Unit {0}) (r : Result (Unit {0}) Fault) (held xs mid ys holds : List ℕ) → PassesOn a b f g (Ok x) held xs mid → PassesOn b c g h r mid ys holds
    → PassesOn a c f h r held (xs ++ ys) holds
PassesOn-then a b c f g h x (Ok y) held xs mid ys holds first p =
    record {
      passed = (first.passed.0 ++ p.passed.0, joined, Appends-append a b c first.passed.0 p.passed.0 first.passed.2 p.passed.2);
      front = tt;
      fault = tt;
      succeeds = p.succeeds ∙ first.succeeds;
      fails = tt;
    }
  where
    joined : held ++ (xs ++ ys) ≡ (first.passed.0 ++ p.passed.0) ++ holds
    joined = search (rules, append_assoc, front-after)
PassesOn-then a b c f g h x (Err fault) held xs mid ys holds first p =
    record {
      passed = tt;
      front =
          subst (λ (l : List ℕ). AppendsFront a c l) (sym (sym (append_assoc held xs ys) ∙ ap (λ l. l ++ ys) first.passed.1 ∙ append_assoc first.passed.0 mid ys))
          (front-after a b c first.passed.0 (mid ++ ys) first.passed.2 p.front);
      fault = p.fault;
      succeeds = tt;
      fails = p.fails ∙ ap (λ n. n + 1) first.succeeds;
    }

-- A text that was cut short, before more.
pub PassesOn-cut : (a b : Option (List ℕ)) (f g : ℕ) (fault : Fault) (held xs ys holds : List ℕ) → PassesOn a b f g (Err fault) held xs holds → PassesOn a b f g (Err fault) held (xs ++ ys) holds
PassesOn-cut a b f g fault held xs ys holds p =
    record {
      passed = tt;
      front = (p.front.0, p.front.1 ++ ys, sym (append_assoc held xs ys) ∙ ap (λ l. l ++ ys) p.front.2 ∙ append_assoc p.front.0 p.front.1 ys, p.front.3);
      fault = p.fault;
      succeeds = tt;
      fails = p.fails;
    }

-- A part of a text was passed on, and the rest is left.
pub record HasPassed (old new : Option (List ℕ)) (before after : ℕ) (held text rest holds : List ℕ) : Type 0 where
  pub part : List ℕ
  pub split : text ≡ part ++ rest
  pub passes : PassesOn old new before after (Ok tt) held part holds

pub HasPassed-more : (a b c : Option (List ℕ)) (f g h : ℕ) (x : Unit {0}) (held text rest mid piece after holds : List ℕ) → HasPassed a b f g held text rest mid → PassesOn b c g h (Ok x) mid piece holds → rest ≡ piece ++ after
    → HasPassed a c f h held text after holds
HasPassed-more a b c f g h tt held text rest mid piece after holds has more is =
    record { part = has.part ++ piece; split = has.split ∙ ap (λ l. has.part ++ l) is ∙ sym (append_assoc has.part piece after); passes = PassesOn-then a b c f g h tt (Ok tt) held has.part mid piece holds has.passes more }

pub HasPassed-cut : (a b c : Option (List ℕ)) (f g h : ℕ) (fault : Fault) (held text rest mid piece after holds : List ℕ) → HasPassed a b f g held text rest mid → PassesOn b c g h (Err fault) mid piece holds → rest ≡ piece ++ after
    → PassesOn a c f h (Err fault) held text holds
HasPassed-cut a b c f g h fault held text rest mid piece after holds has more is =
    subst (λ (l : List ℕ). PassesOn a c f h (Err fault) held l holds) (append_assoc has.part piece after ∙ ap (λ l. has.part ++ l) (sym is) ∙ sym has.split)
    (PassesOn-cut a c f h fault held (has.part ++ piece) after holds (PassesOn-then a b c f g h tt (Err fault) held has.part mid piece holds has.passes more))

-- What was held and a text were passed on, and what is held since was written.
pub Wrote-passed : (a b c : Option (List ℕ)) (f g h : ℕ) (x : Unit {0}) (r : Result (Unit {0}) Fault) (held text mid : List ℕ) → PassesOn a b f g (Ok x) held text mid → Wrote b c g h r mid → Wrote a c f h r (held ++ text)
Wrote-passed a b c f g h x (Ok y) held text mid first w = search (rules, common_steps, front-after)
Wrote-passed a b c f g h x (Err fault) held text mid first w = search (rules, common_steps, front-after)

-- a text that was cut short as it was passed on
pub Wrote-front : (a b : Option (List ℕ)) (f g : ℕ) (fault : Fault) (text rest holds : List ℕ) → PassesOn a b f g (Err fault) [] text holds → Wrote a b f g (Err fault) (text ++ rest)
Wrote-front a b f g fault text rest holds p =
    let cut = PassesOn-cut a b f g fault [] text rest holds p in
    record { whole = tt; front = cut.front; fault = cut.fault; succeeds = tt; fails = cut.fails }

-- a line that was put at the end of its room
pub line-alone : {size : ℕ} (start : ℕ) (new old text : List ℕ) → length old ≡ size → length new ≡ size → drop start new ≡ text ++ drop size old → take (size - start) (drop start new) ≡ text
line-alone {size = size} start new old text room same is = search (rules, length-drop, take_all, drop-length, append-nil)

-- the piece at a place, and those after it
pub pieces-left : {X : Type 0} (f : X → List ℕ) (xs : List X) (i : ℕ) (x : X) → i < length xs → x ≡ get_or xs i x → flat_map f (drop i xs) ≡ f x ++ flat_map f (drop (i + 1) xs)
pieces-left f xs i x within is = ap (flat_map f) (drop_more xs i x within) ∙ ap (λ y. f y ++ flat_map f (drop (i + 1) xs)) (sym is)
