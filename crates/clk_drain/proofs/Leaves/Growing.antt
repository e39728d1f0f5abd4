-- Taps grow by what a log says of their leaves.
use Rattle.std.proofs.Common.{◌≡◌, ℕ, List, [], ◌∷◌, ◌++◌, Option, Some, None, refl, sym, ap, ◌∙◌, rules}
use Rattle.std.specs.List.{AllByRecursion}
use Rattle.std.proofs.lemmas.List.{append_assoc}
use Rattle.std.proofs.lemmas.List.Elements.{filter_map-append}
use Rattle.clk_packet.specs.declared.packet.Packet.{Packet}
use Rattle.clk_sched.specs.declared.visit.Visit.{Visit}
use Rattle.clk_sched.specs.Tree.{Tree}
use Rattle.clk_sched.specs.Answers.{at_queue, Answers, tree_queue}
use Rattle.clk_sched.specs.Results.{leaf_packets}
use Rattle.clk_drain.specs.Line.{LineLists, leaves_of, pulling, pulling_all, answered, PullsAt, AreLinesOf}

pub pulling-none : (l : LineLists) → pulling l [] ≡ l
pulling-none l = search rules

pulling-twice : (l : LineLists) (some more : List Packet) → pulling (pulling l some) more ≡ pulling l (some ++ more)
pulling-twice l some more = search (rules, append_assoc)

pub all-none : (lines : List LineLists) → pulling_all (λ q. []) lines ≡ lines
all-none [] = refl
all-none (l ∷ lines) = λ i. pulling-none l i ∷ all-none lines i

pub all-twice : (f g : ℕ → List Packet) (lines : List LineLists) → pulling_all g (pulling_all f lines) ≡ pulling_all (λ q. f q ++ g q) lines
all-twice f g [] = refl
all-twice f g (l ∷ lines) = λ i. pulling-twice l (f l.leaf) (g l.leaf) i ∷ all-twice f g lines i

-- what a visit got of each leaf
abbrev at_visit : Option ℕ → Option Packet → ℕ → List Packet
at_visit None got q = []
at_visit (Some leaf) got q = answered leaf got q

visit-more : (tree : Tree) (v : Visit) (visits : List Visit) (q : ℕ) → leaf_packets tree q (v ∷ visits) ≡ at_visit (tree_queue tree v) v.got q ++ leaf_packets tree q visits
visit-more tree v visits q = search rules

-- From lines that answered some visits, each tap took what its leaf gave in them.
pub grown : (tree : Tree) (old : List LineLists) (visits : List Visit) (new : List LineLists) → Answers PullsAt (tree_queue tree) old visits new → new ≡ pulling_all (λ q. leaf_packets tree q visits) old
grown tree old [] new h = sym h ∙ sym (all-none old)
grown tree old (v ∷ visits) new h = by_queue (tree_queue tree v) h (λ some rest. grown tree some visits new rest) ∙ ap (λ f. pulling_all f old) (sym (λ i q. visit-more tree v visits q i))
  where
    by_queue : (o : Option ℕ) → at_queue PullsAt o v.got old (λ c. Answers PullsAt (tree_queue tree) c visits new)
        → ((some : List LineLists) → Answers PullsAt (tree_queue tree) some visits new → new ≡ pulling_all (λ q. leaf_packets tree q visits) some)
        → new ≡ pulling_all (λ q. at_visit o v.got q ++ leaf_packets tree q visits) old
    by_queue None h again = again old h
    by_queue (Some leaf) h again = again h.0 h.2 ∙ ap (pulling_all (λ q. leaf_packets tree q visits)) h.1 ∙ all-twice (answered leaf v.got) (λ q. leaf_packets tree q visits) old

pub leaves-same : (f : ℕ → List Packet) (lines : List LineLists) → leaves_of (pulling_all f lines) ≡ leaves_of lines
leaves-same f [] = refl
leaves-same f (l ∷ lines) = ap (λ ls. l.leaf ∷ ls) (leaves-same f lines)

taken-grown : (tree : Tree) (log more : List Visit) (lines : List LineLists) → AllByRecursion (λ (l : LineLists). l.tap.taken ≡ leaf_packets tree l.leaf log) lines
    → AllByRecursion (λ (l : LineLists). l.tap.taken ≡ leaf_packets tree l.leaf (log ++ more)) (pulling_all (λ q. leaf_packets tree q more) lines)
taken-grown tree log more [] h = tt
taken-grown tree log more (l ∷ lines) h = search (rules, filter_map-append, (taken-grown tree log more lines h.1))

-- The lines of a session are still its own once it was pulled over them.
pub lines-grown : (tree : Tree) (log more : List Visit) (lines : List LineLists) → AreLinesOf (record { tree = tree; log = log }) lines
    → AreLinesOf (record { tree = tree; log = log ++ more }) (pulling_all (λ q. leaf_packets tree q more) lines)
lines-grown tree log more lines h = search (rules, leaves-same, taken-grown)
