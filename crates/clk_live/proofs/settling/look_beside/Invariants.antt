use Rattle.std.proofs.Common.{◌≡◌, ◌-◌, length, map}
use Rattle.std.specs.List.{AllZip}
use Rattle.clk_inlet.specs.Halves.{pushed, popped, AreHalves}
use Rattle.clk_live.proofs.Meetings.{MetFirst}
use Rattle.clk_live.proofs.settling.look_beside.Given as goal

abbrev pub decreases-loop-place : goal.decreases-loop-place
decreases-loop-place l = length l.outlets.items - l.place

abbrev pub invariant-loop-place : goal.invariant-loop-place
invariant-loop-place l =
    AllZip AreHalves l.inlets l.outlets.items
    × (map popped l.outlets.items ≡ map popped l.initial.outlets.items)
    × (map pushed l.inlets ≡ map pushed l.initial.inlets)
    × MetFirst l.place l.inlets l.outlets.items
    × (length l.inlets ≡ length l.outlets.items)
