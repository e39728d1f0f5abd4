use Rattle.std.proofs.Common.{length, map, subst, sym, ap, ◌∙◌, ◌≤◌, arith}
use Rattle.std.specs.List.{AllByRecursion}
use Rattle.clk_syntax.specs.declared.limits.TheConstants.{MAX_TREE_BYTES}
use Rattle.clk_syntax.specs.Tokens.{tokens_of}
use Rattle.clk_syntax.specs.Grammar.{IsText}
use Rattle.clk_syntax.specs.Source.{kept, elements}
use Rattle.clk_syntax.specs.Within.{IsNamed, HasNumbers, HasPorts, words_in}
use Rattle.clk_syntax.proofs.Parsing.StatementLemmas.{named-all, words-few, ports-digits, tokens-few}
use Rattle.clk_syntax.proofs.Parsing.NumberTokens.{tokens-digits}
use Rattle.clk_syntax.proofs.Parsing.TextLengths.{connections-few, elements-few, links-small, links-length}
use Rattle.clk_syntax.proofs.reading.named_text.Goals as goal

pub name_all-requires-clause-named : goal.name_all-requires-clause-named
name_all-requires-clause-named c = let r = c.in_ok-statements.ensures.read in subst (AllByRecursion IsNamed) (sym r.2) (named-all r.0)

pub name_all-requires-clause-numbers : goal.name_all-requires-clause-numbers
name_all-requires-clause-numbers c =
    let r = c.in_ok-statements.ensures.read in
    let same = c.deref.ensures.value ∙ c.in_ok-tokens.ensures.tokens in
    subst (AllByRecursion (HasNumbers c.args.text.now)) (sym r.3) (ports-digits c.args.text.now (tokens_of c.args.text.now) r.0 (tokens-digits c.args.text.now) (subst (λ ts. IsText ts r.0) same r.1))

pub name_all-requires-clause-few : goal.name_all-requires-clause-few
name_all-requires-clause-few c =
    let r = c.in_ok-statements.ensures.read in
    let few = words-few c.deref.result.now r.0 r.1 in let less = tokens-few c.args.text.now in
    let same = ap length (c.deref.ensures.value ∙ c.in_ok-tokens.ensures.tokens) in
    subst (λ d. words_in d ≤ MAX_TREE_BYTES) (sym r.2) (omega (arith, few, less, same, c.if-text-gt-MAX_TREE_BYTES.false))

pub returns-clause-words : goal.returns-clause-words
returns-clause-words c =
    let r = c.in_ok-statements.ensures.read in
    let few = words-few c.deref.result.now r.0 r.1 in let less = tokens-few c.args.text.now in
    let same = ap length (c.deref.ensures.value ∙ c.in_ok-tokens.ensures.tokens) in
    subst (λ d. words_in d ≤ MAX_TREE_BYTES) (sym r.2) (omega (arith, few, less, same, c.if-text-gt-MAX_TREE_BYTES.false))

pub returns-clause-few_nodes : goal.returns-clause-few_nodes
returns-clause-few_nodes c =
    let r = c.in_ok-statements.ensures.read in
    let few = words-few c.deref.result.now r.0 r.1 in let less = tokens-few c.args.text.now in
    let same = ap length (c.deref.ensures.value ∙ c.in_ok-tokens.ensures.tokens) in
    let words = ap words_in r.2 in
    let all = elements-few c.args.text.now (map kept c.in_ok-statements.statements.declarations.items) in
    omega (arith, few, less, same, words, all, c.in_ok-named.ensures.count, c.if-text-gt-MAX_TREE_BYTES.false)

pub returns-clause-few_links : goal.returns-clause-few_links
returns-clause-few_links c =
    let r = c.in_ok-statements.ensures.read in
    let few = connections-few c.deref.result.now r.0 r.1 in let less = tokens-few c.args.text.now in
    let same = ap length (c.deref.ensures.value ∙ c.in_ok-tokens.ensures.tokens) in
    let connections = ap length r.3 in
    let links = ap length c.in_ok-named.ensures.links ∙ links-length c.args.text.now (elements c.args.text.now (map kept c.in_ok-statements.statements.declarations.items)) c.in_ok-statements.statements.connections.items in
    omega (arith, few, less, same, connections, links, c.if-text-gt-MAX_TREE_BYTES.false)

pub returns-clause-ports : goal.returns-clause-ports
returns-clause-ports c =
    subst (AllByRecursion HasPorts) (sym c.in_ok-named.ensures.links)
    (links-small c.args.text.now (elements c.args.text.now (map kept c.in_ok-statements.statements.declarations.items)) c.in_ok-statements.statements.connections.items)
