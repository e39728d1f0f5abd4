use Rattle.std.proofs.Common.{◌≡◌, ◌+◌, ◌∷◌, None, length, drop, slice_index_or, inr, sym, subst, List}
use Rattle.std.specs.List.{AllByRecursion}
use Rattle.std.proofs.lemmas.List.{drop_more, drop_all}
use Rattle.std.proofs.lemmas.Result.{err_from_is_err_and}
use Rattle.clk_packet.specs.declared.fault.Fault.TheVariants.{UnknownName}
use Rattle.clk_syntax.specs.declared.node.Link.{Link}
use Rattle.clk_syntax.specs.declared.texts.statements.Connection.{Connection}
use Rattle.clk_syntax.specs.declared.texts.token.Symbol.TheVariants.{Name}
use Rattle.clk_syntax.specs.Source.{wire, wires}
use Rattle.clk_syntax.specs.Within.{IsConnectedWithin, HasNumbers}
use Rattle.clk_syntax.proofs.Elements.LinkLemmas.{Links, Links-none, Links-more, Links-stop, Links-all}
use Rattle.clk_syntax.proofs.naming.links_of.Goals as goal

abbrev nothing : Connection
nothing = record { from = record { symbol = Name; place = 0; length = 0 }; output = None; input = None; to = record { symbol = Name; place = 0; length = 0 } }

pub loop-connection-init : goal.loop-connection-init
loop-connection-init c =
    let ws = wires c.args.text.now c.args.connections.now in
    record { within = c.requires.within; numbers = c.requires.numbers; links = λ all table. subst (λ made. Links all ws ws made) (sym c.in_ok-links.ensures.items) (Links-none all ws) }

pub returns-in_err-link_of : goal.returns-in_err-link_of
returns-in_err-link_of c =
    let text = c.args.text.now in
    let cs = c.args.connections.now in
    let i = c.loop-connection.connection-index in
    let one = slice_index_or cs i nothing in
    let next : drop i cs ≡ one ∷ drop (i + 1) cs = drop_more cs i nothing c.loop-connection-test.true in
    let p = err_from_is_err_and c.from_residual-in_err-link_of.result c.from_residual-in_err-link_of.ensures.1 in
    λ all table.
    rw (p.1, p.2)
    (inr (Links-stop UnknownName all (wires text cs) (wires text (drop (i + 1) cs)) c.loop-connection.links.items (wire text one) _ (c.in_err-link_of.ensures all table)
    (subst (λ xs. Links all (wires text cs) (wires text xs) c.loop-connection.links.items) next (c.loop-connection.invariant.links all table))))

pub loop-connection-preserved : goal.loop-connection-preserved
loop-connection-preserved c =
    let text = c.args.text.now in
    let cs = c.args.connections.now in
    let i = c.loop-connection.connection-index in
    let one = slice_index_or cs i nothing in
    let next : drop i cs ≡ one ∷ drop (i + 1) cs = drop_more cs i nothing c.loop-connection-test.true in
    record {
      within = (subst (AllByRecursion (IsConnectedWithin (length text))) next c.loop-connection.invariant.within).1;
      numbers = (subst (AllByRecursion (HasNumbers text)) next c.loop-connection.invariant.numbers).1;
      links = λ all table.
          let made = c.in_ok-link_of.ensures all table in
          subst (Links all (wires text cs) (wires text (drop (i + 1) cs))) (sym {A = List Link} c.in_ok-push.ensures.items)
          (Links-more all (wires text cs) (wires text (drop (i + 1) cs)) c.loop-connection.links.items (wire text one) c.in_ok-link_of.field-0 made.0 made.1 made.2
          (subst (λ xs. Links all (wires text cs) (wires text xs) c.loop-connection.links.items) next (c.loop-connection.invariant.links all table)));
    }

pub returns : goal.returns
returns c =
    let text = c.args.text.now in
    let cs = c.args.connections.now in
    λ all table.
    Links-all all (wires text cs) c.loop-connection.links.items
    (subst (λ xs. Links all (wires text cs) (wires text xs) c.loop-connection.links.items) (drop_all c.loop-connection.connection-index cs c.loop-connection-test.false) (c.loop-connection.invariant.links all table))
