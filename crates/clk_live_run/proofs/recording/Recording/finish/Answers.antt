use Rattle.std.proofs.Common.{Bool, true, List, subst}
use Rattle.clk_script.specs.declared.script.Command.{Command}
use Rattle.clk_live_run.specs.inside.Recording.{SinkAt, RecordAt, IsRecordOf, IsEnded}
use Rattle.clk_live_run.proofs.Records.{failed-ended}
use Rattle.clk_live_run.proofs.recording.Recording.finish.Goals as goal

pub returns-in-Failed : goal.returns-in-Failed
returns-in-Failed g c =
    record {
      ended = subst (λ (r : RecordAt). (recording : Bool) (start : SinkAt) (commands : List Command) → IsRecordOf recording start r commands → IsEnded recording true start (record { taken = g.R.Sink.taken c.self.inside.sink; failures = g.R.Sink.failures c.self.inside.sink }) commands) c.self.view_is
          (λ recording start commands h. failed-ended _ commands (c.records_grow.ensures.drain commands 0) c.in-Failed.is recording start h);
    }
