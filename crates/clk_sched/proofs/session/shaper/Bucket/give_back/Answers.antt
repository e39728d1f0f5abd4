use Rattle.std.proofs.Common.{rules}
use Rattle.clk_sched.proofs.Classes.Bucket.{bucket-back}
use Rattle.clk_sched.proofs.session.shaper.Bucket.give_back.Goals as goal

pub returns : goal.returns
returns c before rate burst turns t taken holds early none = search (rules, bucket-back)
