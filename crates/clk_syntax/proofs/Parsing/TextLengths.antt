-- How many connections and elements a text has: no more than tokens.
use Rattle.std.proofs.Common.{◌≡◌, ◌≤◌, ◌+◌, ℕ, List, [], ◌∷◌, ◌++◌, length, Option, refl, sym, ap, subst, ◌∙◌, length-append, arith, rules}
use Rattle.std.proofs.lemmas.List.{length-map}
use Rattle.std.specs.List.{flat_map, AllByRecursion}
use Rattle.clk_syntax.specs.declared.texts.token.Token.{Token}
use Rattle.clk_syntax.specs.declared.texts.statements.Connection.{Connection}
use Rattle.clk_syntax.specs.declared.limits.TheConstants.{MAX_PORT}
use Rattle.clk_syntax.specs.Grammar.{Hop, Statement, nothing, declaration, chain, bare, written_hop, written, ended, IsText}
use Rattle.clk_syntax.specs.Source.{Declared, Element, hops_from, connected_in, elements, port, wire, wires}
use Rattle.clk_syntax.specs.Within.{HasPorts, words_in}
use Rattle.clk_syntax.specs.Faults.{link_of, links_of, port_kept}

hops-fewer : (name : Token) (hops : List Hop) → length (hops_from name hops) ≤ length (flat_map written_hop hops)
hops-fewer name [] = omega arith
hops-fewer name (hop ∷ more) = search (rules, length-append, (hops-fewer hop.name more))

connected-written : (statement : Statement) → length (connected_in statement) ≤ length (written statement)
connected-written nothing = omega arith
connected-written (declaration first more class arguments) = omega arith
connected-written (chain first hop more) = let h = hops-fewer first (hop ∷ more) in omega (arith, h)

-- what a measure of statements is at most, where each is at most what it is written as
written-all : (f : List Statement → ℕ) → ((s : Statement) (more : List Statement) → f (s ∷ more) ≤ length (written s) + f more) → f [] ≡ 0
    → (earlier : List Statement) (last : Statement) → f (earlier ++ last ∷ []) ≤ length (flat_map ended earlier ++ written last)
written-all f step none [] last = let h = step last [] in omega (arith, h, none)
written-all f step none (s ∷ earlier) last = search (rules, length-append, (written-all f step none earlier last))

in-text : (f : List Statement → ℕ) → ((s : Statement) (more : List Statement) → f (s ∷ more) ≤ length (written s) + f more) → f [] ≡ 0
    → (tokens : List Token) (statements : List Statement) → IsText tokens statements → f statements ≤ length tokens
in-text f step none tokens statements t =
    let h = written-all f step none t.earlier t.last in
    let same = sym (length-map tokens bare) ∙ ap length t.written_so in
    subst (λ ss. f ss ≤ length tokens) (sym t.are) (omega (arith, h, same))

-- connections are no more than tokens
pub connections-few : (tokens : List Token) (statements : List Statement) → IsText tokens statements → length (flat_map connected_in statements) ≤ length tokens
connections-few tokens statements t = in-text (λ ss. length (flat_map connected_in ss)) step refl tokens statements t
  where
    step : (s : Statement) (more : List Statement) → length (flat_map connected_in (s ∷ more)) ≤ length (written s) + length (flat_map connected_in more)
    step s more = let h = connected-written s in let all = length-append (connected_in s) (flat_map connected_in more) in omega (arith, h, all)

-- elements are no more than words
pub elements-few : (text : List ℕ) (declared : List Declared) → length (elements text declared) ≤ words_in declared
elements-few text [] = omega arith
elements-few text (d ∷ more) = search (rules, length-append, length-map, (elements-few text more))

port-small : (text : List ℕ) (p : Option Token) → port_kept (port text p) ≤ MAX_PORT + 1
port-small text p = search rules

-- connections have ports as the code keeps them
pub links-small : (text : List ℕ) (all : List Element) (connections : List Connection) → AllByRecursion HasPorts (links_of all (wires text connections))
links-small text all [] = _
links-small text all (c ∷ more) = ((port-small text c.output, port-small text c.input), links-small text all more)

pub links-length : (text : List ℕ) (all : List Element) (connections : List Connection) → length (links_of all (wires text connections)) ≡ length connections
links-length text all connections = length-map (wires text connections) (link_of all) ∙ length-map connections (wire text)
