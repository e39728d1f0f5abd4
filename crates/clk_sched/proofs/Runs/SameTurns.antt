-- Each manner settles a turn by what was got: two turns after the same earlier ones, in which like visits get alike, are alike.
use Rattle.std.proofs.Common.{◌≡◌, ℕ, zero, suc, Bool, false, List, [], ◌∷◌, ◌++◌, Option, MatchOption, MatchBool, inl, inr, refl, sym, ap, ap₂, ◌∙◌, subst, append_assoc, rules}
use Rattle.std.specs.List.{flat_map}
use Rattle.std.proofs.lemmas.List.{map-append, append_cancel_left}
use Rattle.std.proofs.lemmas.List.Elements.{filter-append}
use Rattle.clk_packet.specs.declared.packet.Packet.{Packet}
use Rattle.clk_sched.specs.declared.visit.Visit.{Visit}
use Rattle.clk_sched.specs.Tree.{Tree}
use Rattle.clk_sched.specs.Turns.{Turn, EachAfter, UpToFirst, IsPlain, AsksInOrder}
use Rattle.clk_sched.specs.Heads.{LooksAtHeads, EndAtPass}
use Rattle.clk_sched.specs.Laws.{Manner, Follows}
use Rattle.clk_sched.specs.Choice.{answers_of, GoAlike}
use Rattle.clk_packet.specs.Lists.{In}

-- in two parts of a log each queue gave the same answers, as far as it was asked in both
abbrev pub AnswerAlike : Tree → (xs ys : List Visit) → Type 0
AnswerAlike tree xs ys = (q : ℕ) → GoAlike (answers_of tree q xs) (answers_of tree q ys)

answers-append : (tree : Tree) (q : ℕ) (xs ys : List Visit) (more : List (Option Packet)) → answers_of tree q (xs ++ ys) ++ more ≡ answers_of tree q xs ++ (answers_of tree q ys ++ more)
answers-append tree q xs ys more = search (rules, filter-append, map-append, append_assoc)

-- parts that answer alike begin alike
pub begin-alike : (tree : Tree) (ws xs ys zs : List Visit) → AnswerAlike tree (ws ++ xs) (ys ++ zs) → AnswerAlike tree ws ys
begin-alike tree ws xs ys zs e q =
    record {
      left = answers_of tree q xs ++ (e q).left;
      right = answers_of tree q zs ++ (e q).right;
      same = sym (answers-append tree q ws xs (e q).left) ∙ (e q).same ∙ answers-append tree q ys zs (e q).right;
    }

-- and after the same beginning they go on alike
pub go_on-alike : (tree : Tree) (ws xs ys zs : List Visit) → ws ≡ ys → AnswerAlike tree (ws ++ xs) (ys ++ zs) → AnswerAlike tree xs zs
go_on-alike tree ws xs ys zs g e q =
    record {
      left = (e q).left;
      right = (e q).right;
      same = append_cancel_left (answers_of tree q ws) _ _
          (sym (answers-append tree q ws xs (e q).left) ∙ (e q).same ∙ answers-append tree q ys zs (e q).right ∙ ap (λ vs. answers_of tree q vs ++ (answers_of tree q zs ++ (e q).right)) (sym g));
    }

-- two pulls of a tree, each by the part of the log that ends with a visit of a node
pub record Sides : Type 0 where
  pub tree : Tree
  pub one : Visit → List Visit
  pub other : Visit → List Visit

-- two visits to one input, which both ask or both look at the same head, and which pass alike what they get
pub record AreLike (v u : Visit) : Type 0 where
  pub input : v.input ≡ u.input
  pub fresh : v.fresh ≡ u.fresh
  pub held : v.fresh ≡ false → v.got ≡ u.got
  pub passed : v.got ≡ u.got → v.passed ≡ u.passed

-- like visits are the same where the answers are alike, and so are the parts that end with them
abbrev pub GetAlike : Sides → (vs us : List Visit) → Type 0
GetAlike d vs us = (v u : Visit) → In v vs → In u us → AreLike v u → AnswerAlike d.tree (d.one v) (d.other u) → (v ≡ u) × (d.one v ≡ d.other u)

-- two lists of visits are the same, and so are the parts that end with them
pub record AreSameVisits (d : Sides) (vs us : List Visit) : Type 0 where
  pub visits : vs ≡ us
  pub parts : flat_map d.one vs ≡ flat_map d.other us

none-left : (d : Sides) (vs us : List Visit) → vs ≡ [] → us ≡ [] → AreSameVisits d vs us
none-left d vs us a b = record { visits = a ∙ sym b; parts = ap (flat_map d.one) a ∙ sym (ap (flat_map d.other) b) }

-- a first visit of each that is like, and what follows where that is the same
and-then : (d : Sides) (v u : Visit) (vs us : List Visit) → GetAlike d (v ∷ vs) (u ∷ us) → AreLike v u
    → (v ≡ u → GetAlike d vs us → AnswerAlike d.tree (flat_map d.one vs) (flat_map d.other us) → AreSameVisits d vs us)
    → AnswerAlike d.tree (flat_map d.one (v ∷ vs)) (flat_map d.other (u ∷ us)) → AreSameVisits d (v ∷ vs) (u ∷ us)
and-then d v u vs us alike like rest e =
    let first = alike v u (inl refl) (inl refl) like (begin-alike d.tree (d.one v) (flat_map d.one vs) (d.other u) (flat_map d.other us) e) in
    let more = rest first.0 (λ w x mw mx. alike w x (inr mw) (inr mx)) (go_on-alike d.tree (d.one v) (flat_map d.one vs) (d.other u) (flat_map d.other us) first.1 e) in
    record { visits = ap₂ (λ w ws. w ∷ ws) first.0 more.visits; parts = ap₂ (λ x xs. x ++ xs) first.1 more.parts }

plain-like : (v u : Visit) → IsPlain v → IsPlain u → v.input ≡ u.input → AreLike v u
plain-like v u p q same = search rules

-- visits in the same order, up to the first that got a packet
pub plain-same : (d : Sides) (order : List ℕ) (vs us : List Visit) → GetAlike d vs us → AsksInOrder order vs → AsksInOrder order us
    → AnswerAlike d.tree (flat_map d.one vs) (flat_map d.other us) → AreSameVisits d vs us
plain-same d [] [] [] alike p q e = none-left d [] [] refl refl
plain-same d [] [] (u ∷ us) alike p q e = absurd q.in_order
plain-same d [] (v ∷ vs) us alike p q e = absurd p.in_order
plain-same d (i ∷ order) [] us alike p q e = absurd p.in_order
plain-same d (i ∷ order) (v ∷ vs) [] alike p q e = absurd q.in_order
plain-same d (i ∷ order) (v ∷ vs) (u ∷ us) alike p q e =
    and-then d v u vs us alike (plain-like v u p.plain.0 q.plain.0 (p.in_order.0 ∙ sym q.in_order.0))
    (λ same more f. by_got v.got p.in_order.1 (subst (λ (w : Visit). MatchOption w.got (UpToFirst order us) (λ _. us ≡ [])) (sym same) q.in_order.1)
    (λ a b. plain-same d order vs us more (record { plain = p.plain.1; in_order = a }) (record { plain = q.plain.1; in_order = b }) f)) e
  where
    by_got : (o : Option Packet) → MatchOption o (UpToFirst order vs) (λ _. vs ≡ []) → MatchOption o (UpToFirst order us) (λ _. us ≡ [])
        → (UpToFirst order vs → UpToFirst order us → AreSameVisits d vs us) → AreSameVisits d vs us
    by_got o a b rest = search rules

looks-like : (turn_of : List Visit → ℕ) (covers : List Visit → ℕ → Packet → Bool) (earlier : List Visit) (v u : Visit) → LooksAtHeads turn_of covers earlier v → LooksAtHeads turn_of covers earlier u → AreLike v u
looks-like turn_of covers earlier v u p q = search rules

heads-same : (d : Sides) (turn_of : List Visit → ℕ) (covers : List Visit → ℕ → Packet → Bool) (left : ℕ) (earlier vs us : List Visit) → GetAlike d vs us
    → EachAfter (LooksAtHeads turn_of covers) earlier vs → EachAfter (LooksAtHeads turn_of covers) earlier us → EndAtPass left vs → EndAtPass left us
    → AnswerAlike d.tree (flat_map d.one vs) (flat_map d.other us) → AreSameVisits d vs us
heads-same d turn_of covers zero earlier vs us alike p q a b e = none-left d vs us a b
heads-same d turn_of covers (suc left) earlier [] us alike p q a b e = absurd a
heads-same d turn_of covers (suc left) earlier (v ∷ vs) [] alike p q a b e = absurd b
heads-same d turn_of covers (suc left) earlier (v ∷ vs) (u ∷ us) alike p q a b e =
    and-then d v u vs us alike (looks-like turn_of covers earlier v u p.0 q.0)
    (λ same more f. by_passed v.passed a (subst (λ (w : Visit). MatchBool w.passed (us ≡ []) (EndAtPass left us)) (sym same) b)
    (λ c k. heads-same d turn_of covers left (v ∷ earlier) vs us more p.1 (subst (λ w. EachAfter (LooksAtHeads turn_of covers) (w ∷ earlier) us) (sym same) q.1) c k f)) e
  where
    by_passed : (m : Bool) → MatchBool m (vs ≡ []) (EndAtPass left vs) → MatchBool m (us ≡ []) (EndAtPass left us) → (EndAtPass left vs → EndAtPass left us → AreSameVisits d vs us) → AreSameVisits d vs us
    by_passed m a b rest = search rules

-- two turns in one manner after the same earlier ones
pub turn-same : (d : Sides) (m : Manner) (inputs : ℕ) (earlier : List Turn) (t u : Turn) → GetAlike d t.visits u.visits → Follows m inputs earlier t → Follows m inputs earlier u → t.moment ≡ u.moment
    → AnswerAlike d.tree (flat_map d.one t.visits) (flat_map d.other u.visits) → AreSameVisits d t.visits u.visits
turn-same d m inputs earlier t u alike p q now e = search (rules, plain-same, heads-same)
