-- Lists of packets by sender, and what went out.
use Rattle.std.proofs.Common.{◌≡◌, ◌≢◌, ℕ, false, zero, suc, List, [], ◌∷◌, ◌++◌, length, refl, inl, ◌⊎◌, arith, rules}
use Rattle.std.proofs.lemmas.Grind.{common_steps}
use mathlib.Core.Option.{some}
use lib.ListN.{get_elem?}
use Rattle.clk_packet.specs.declared.packet.Packet.{Packet}
use Rattle.clk_packet.specs.Lists.{of_sender, stands_in}
use Rattle.clk_ruled.specs.Rule.{Out, to_puller, put_out, went_out, taken_in, evicted_by}

pub of-own : (s : ℕ) (all : List Packet) (p : Packet) → p.sender ≡ s → of_sender s (all ++ p ∷ []) ≡ of_sender s all ++ p ∷ []
of-own s all p e = grind (arith, common_steps)

-- what went out, with one packet more
pub went-more : (gone more : List Out) → went_out (gone ++ more) ≡ went_out gone ++ went_out more
went-more [] more = refl
went-more (o ∷ gone) more = search (rules, (went-more gone more))

pub taken-more : (gone more : List Out) → taken_in (gone ++ more) ≡ taken_in gone ++ taken_in more
taken-more [] more = refl
taken-more (o ∷ gone) more = search (rules, (taken-more gone more))

pub evicted-more : (s : ℕ) (gone more : List Out) → evicted_by s (gone ++ more) ≡ evicted_by s gone ++ evicted_by s more
evicted-more s [] more = refl
evicted-more s (o ∷ gone) more = search (rules, (evicted-more s gone more))

pub evicted-own : (s : ℕ) (gone : List Out) (p : Packet) → evicted_by s (gone ++ put_out s p ∷ []) ≡ evicted_by s gone ++ p ∷ []
evicted-own s gone p = search (rules, evicted-more)

pub evicted-other : (s e : ℕ) (gone : List Out) (p : Packet) → e ≢ s → evicted_by s (gone ++ put_out e p ∷ []) ≡ evicted_by s gone
evicted-other s e gone p ne = search (rules, evicted-more)

pub evicted-pulled : (s : ℕ) (gone : List Out) (p : Packet) → evicted_by s (gone ++ to_puller p ∷ []) ≡ evicted_by s gone
evicted-pulled s gone p = search (rules, evicted-more)

-- one sender more
pub has-not : (t s : ℕ) (senders : List ℕ) → stands_in s (t ∷ senders) ≡ false → (t ≢ s) × (stands_in s senders ≡ false)
has-not t s senders h = search rules

-- a place of a list with one member more
pub at-end : {A : Type 0} (l : List A) (a b : A) (j : ℕ) → get_elem? (l ++ a ∷ []) j ≡ some b → (get_elem? l j ≡ some b) ⊎ ((j ≡ length l) × (a ≡ b))
at-end [] a b o e = search rules
at-end (x ∷ xs) a b zero e = inl e
at-end (x ∷ xs) a b (suc j) e = search (rules, (at-end xs a b j e))
