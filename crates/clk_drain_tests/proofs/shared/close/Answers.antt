use Rattle.std.proofs.Common.{◌≡◌, List, [], ◌∷◌, sym, ap, ◌∙◌, subst}
use Rattle.std.specs.List.{AllByRecursion}
use Rattle.clk_packet.specs.Lists.{stands_in, AreRising}
use Rattle.clk_sched.specs.Tree.{root, leaves}
use Rattle.clk_sched.specs.Results.{leaf_packets}
use Rattle.clk_sched.specs.Session.{Progress, SessionLists, progress_of}
use Rattle.clk_drain.specs.Line.{LineLists, leaves_of, AreLinesOf}
use Rattle.clk_drain_tests.proofs.shared.close.Goals as goal

-- Before the first pull nothing was taken, at any leaf.
none-taken : (session : Progress) (lines : List LineLists) → session.log ≡ [] → AllByRecursion (λ (l : LineLists). l.tap.taken ≡ []) lines → AllByRecursion (λ (l : LineLists). l.tap.taken ≡ leaf_packets session.tree l.leaf session.log) lines
none-taken session [] log h = tt
none-taken session (l ∷ lines) log h = (h.0 ∙ ap (leaf_packets session.tree l.leaf) (sym log), none-taken session lines log h.1)

lines-of-new : (session : Progress) (lines : List LineLists) → session.log ≡ [] → leaves_of lines ≡ leaves (root session.tree) → AreRising (leaves_of lines) → AllByRecursion (λ (l : LineLists). l.tap.taken ≡ []) lines → AreLinesOf session lines
lines-of-new session lines log same rise fresh = record {
  rise = rise;
  leaves = λ q. ap (stands_in q) same;
  taken = none-taken session lines log fresh;
}

pub loop-packet-init : goal.loop-packet-init
loop-packet-init g c =
    let made = c.in_ok-session.ensures.made in
    let tree = ap (λ (s : SessionLists). leaves (root s.tree)) (sym made) in
    subst (AreLinesOf (progress_of c.in_ok-session.session)) (sym c.new-lines.ensures)
    (lines-of-new (progress_of c.in_ok-session.session) c.args.lines.items (ap (λ (s : SessionLists). s.log) made) (c.requires.leaves ∙ tree) (subst AreRising (sym c.requires.leaves) c.requires.rise) c.requires.fresh)
