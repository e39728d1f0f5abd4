use Rattle.std.proofs.Common.{◌≡◌, ◌≤◌, ◌+◌, ◌-◌, ◌*◌, length, map, take, None}
use Rattle.clk_script.specs.Record.{record_text}
use Rattle.clickpull_c.specs.Recording.{IsAdded, send_of}
use Rattle.clickpull_c.proofs.recording.add_sends.Given as goal

abbrev pub invariant-loop-done : goal.invariant-loop-done
invariant-loop-done g l =
    IsAdded (record_text (map (λ s. send_of (g.S.Sent.packet s)) (take l.done l.sent)) None) l.initial.text l.text l.used l.end × (length l.text ≡ length l.initial.text) × (l.done ≤ length l.sent) × (l.end ≤ l.used + l.done * 25)

abbrev pub decreases-loop-done : goal.decreases-loop-done
decreases-loop-done g l = length l.sent - l.done
