use Rattle.std.proofs.Common.{◌≡◌, ◌≤◌, ◌-◌, List, ℕ, length}
use Rattle.std.specs.Io.KnownBytes.{Consumes}
use Rattle.clk_script.specs.inside.ScriptRouter.{named_by}
use Rattle.clk_script.specs.inside.Reading.{HasCome}
use Rattle.clk_script.proofs.reading.read_script.Given as goal

-- A text of this size came.
abbrev pub invariant-loop-size : goal.invariant-loop-size
invariant-loop-size g l = record {
  text : (text : List ℕ) × Consumes (g.R.Source.remaining l.fn.reader) (g.R.Source.remaining l.reader) text × (length text ≡ l.size) × HasCome (named_by l.numbers l.devices) text l.reading l.held.items;
  failures : g.R.Source.failures l.reader ≡ g.R.Source.failures l.fn.reader;
  most : l.size ≤ 33554433;
  chunk : length l.chunk ≡ 65536;
}

abbrev pub decreases-loop-size : goal.decreases-loop-size
decreases-loop-size g l = 33554433 - l.size
