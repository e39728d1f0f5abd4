use Rattle.std.proofs.Common.{ℕ, Option, List}
use Rattle.clk_packet.specs.declared.packet.Packet.{Packet}
use Rattle.clk_sched.specs.Closing.{TakesOne}
use Rattle.clk_sched.specs.Session.{progress_of, newly}
use Rattle.clk_sched.specs.Answers.{tree_queue}
use Rattle.clk_drain.specs.Line.{LineLists, PullsAt}
use Rattle.clk_drain.specs.inside.Parts.{held_at}
use Rattle.clk_drain.proofs.Leaves.PulledLines.{answers-weaker, lines-drained}
use Rattle.clk_drain.proofs.closing.drain.Goals as goal

-- an answer of a gathered line, which is one of a line
abbrev GivesHeld : List LineLists → ℕ → Option Packet → List LineLists → Type 0
GivesHeld old leaf got new = PullsAt old leaf got new × TakesOne (held_at old) (held_at new) leaf got

pub returns-clause-drained : goal.returns-clause-drained
returns-clause-drained g c =
    lines-drained (progress_of c.args.session) (progress_of c.drain.new.self) c.args.lines.items c.new-lines.result c.drain.new.q c.into_vec.result.items c.args.moment c.in_ok-drain.field-0 c.args.left c.in_ok-drain.ensures.drained.all c.new-lines.ensures
    (answers-weaker GivesHeld PullsAt (λ a q got b h. h.0) (tree_queue c.args.session.tree) (newly (progress_of c.args.session) (progress_of c.drain.new.self)) c.new-lines.result c.drain.new.q c.drain.ensures.drained.answers) c.into_vec.ensures c.requires.lines
