use Rattle.std.proofs.Common.{◌≡◌, subst}
use Rattle.clk_live_run.specs.declared.recording.RecordState.TheVariants.{Going}
use Rattle.clk_live_run.specs.inside.Recording.{RecordAt}
use Rattle.clk_live_run.proofs.Records.{ended-stays}
use Rattle.clk_live_run.proofs.recording.Recording.note.Goals as goal

pub returns-in_default : goal.returns-in_default
returns-in_default g c =
    record {
      noted = λ commands recording start.
          ended-stays c.args.self.now commands c.args.command (c.records_grow.ensures.command commands c.args.command) (subst (λ (r : RecordAt). r.state ≡ Going → ⊥) c.self.view_is c.in_default.not-Going) recording start;
    }
