use Rattle.std.proofs.Common.{◌≡◌, ◌++◌, ◌∙◌, List, map, Some, None, inr, sym, ap, arith}
use Rattle.std.specs.Option.{option_map}
use Rattle.clk_packet.specs.declared.fault.Fault.TheVariants.{BadArgument}
use Rattle.clk_syntax.specs.declared.naming.class.Role.{Role}
use Rattle.clk_syntax.specs.declared.node.Node.{Node}
use Rattle.clk_syntax.specs.declared.texts.token.Token.{Token}
use Rattle.clk_syntax.specs.Classes.{class_view}
use Rattle.clk_syntax.specs.Source.{kept}
use Rattle.clk_syntax.specs.inside.Numbers.{has_number}
use Rattle.clk_syntax.specs.Declarations.{class_in}
use Rattle.clk_syntax.specs.inside.Naming.{may_stand, node_at}
use Rattle.clk_syntax.proofs.Elements.JudgeLemmas.{Judges-missing, Judges-fails, Judges-more}
use Rattle.clk_syntax.proofs.Elements.WidthLemmas.{width-in}
use Rattle.clk_syntax.proofs.naming.JudgedElements.judge.Goals as goal

-- the names as the code sees them, and their role
nodes-by : {role known : Role} {names items : List Token} (nodes : List Node) → names ≡ items → role ≡ known → nodes ++ map (node_at role) names ≡ nodes ++ map (node_at known) items
nodes-by {known = known} {names = names} nodes e f = ap (λ r. nodes ++ map (node_at r) names) f ∙ ap (λ ns. nodes ++ map (node_at known) ns) e

pub returns-in-None : goal.returns-in-None
returns-in-None c =
    let d = kept c.args.declaration.now in
    let class : class_in c.args.text.now d ≡ None = sym c.in_ok-class.ensures.class ∙ ap (option_map class_view) c.in-None.is in
    λ all left h. inr (ap (option_map BadArgument) (Judges-missing c.args.text.now all left d c.args.self.now class c.requires.named h))

pub returns-then-not-stands : goal.returns-then-not-stands
returns-then-not-stands c =
    let d = kept c.args.declaration.now in
    let class : class_in c.args.text.now d ≡ Some (class_view c.in-Some.class) = sym c.in_ok-class.ensures.class ∙ ap (option_map class_view) c.in-Some.is in
    let len = c.len.ensures.value in
    let may = ap (λ l. may_stand (has_number c.args.self.now.senders) (class_view c.in-Some.class) l) (sym len) ∙ sym c.stands.ensures.stands ∙ c.if-not-stands.true in
    λ all left h. inr (ap (option_map BadArgument) (Judges-fails c.args.text.now all left d c.args.self.now (class_view c.in-Some.class) class c.requires.named may h))

pub role-requires : goal.role-requires
role-requires c =
    let d = kept c.args.declaration.now in
    let class : class_in c.args.text.now d ≡ Some (class_view c.in-Some.class) = sym c.in_ok-class.ensures.class ∙ ap (option_map class_view) c.in-Some.is in
    let width = width-in c.args.text.now d (class_view c.in-Some.class) class in
    let few = c.requires.few in
    omega (arith, width, few)

pub returns : goal.returns
returns c =
    let d = kept c.args.declaration.now in
    let class : class_in c.args.text.now d ≡ Some (class_view c.in-Some.class) = sym c.in_ok-class.ensures.class ∙ ap (option_map class_view) c.in-Some.is in
    let len = c.len.ensures.value in
    let stands = sym c.stands.ensures.stands ∙ c.if-not-stands.false in
    let may = ap (λ l. may_stand (has_number c.args.self.now.senders) (class_view c.in-Some.class) l) (sym len) ∙ stands in
    let nodes = c.in_ok-push_nodes.ensures.nodes ∙ nodes-by c.args.self.now.nodes.items c.deref.ensures c.role.ensures in
    λ all left h.
    Judges-more c.args.text.now all left d c.args.self.now _ c.in-Some.class class c.requires.named may (c.stands.ensures.added c.if-not-stands.false) c.in_ok-push.ensures.items nodes h
