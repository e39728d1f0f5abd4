-- What a run of a trace writes, and why it is refused, from what its parts say.
use Rattle.std.proofs.Common.{◌≡◌, ℕ, List, Option, Some, None, IfSome, refl}
use Rattle.std.specs.List.{flat_map}
use Rattle.clk_packet.specs.declared.packet.Packet.{Packet}
use Rattle.clk_packet.specs.declared.tally.Tally.{Tally}
use Rattle.clk_packet.specs.Dealt.{AccountFor}
use Rattle.clk_packet.specs.Trace.{pairs_of, sent, sent_by, shown, trace_fault}
use Rattle.clk_sched.specs.declared.visit.Visit.{Visit}
use Rattle.clk_tree.specs.Plan.{Planned}
use Rattle.clk_sched.specs.declared.session.keeps.Keeps.{Keeps}
use Rattle.clk_sched.specs.declared.session.packed.PackedLog.{PackedLog}
use Rattle.clk_drain.specs.declared.outcome.Outcome.{Outcome}
use Rattle.clk_drain.specs.Laws.{RunsAccountForEmitted}
use Rattle.clk_drain.specs.Run.{IsKeptRun, IsRunWith}
use Rattle.clk_report.specs.Report.{report_text}
use Rattle.clk_words.specs.declared.pace.Pace.{Pace}
use Rattle.clk_gate.specs.Known.{senders_in, first_unknown}
use Rattle.clk_command.specs.Running.{RunWrites, Tells}

-- what a trace tells, where its bytes are known
pub trace-tells : (known : Option (List ℕ)) (traces : List (List Packet)) → IfSome known (λ text. trace_fault text ≡ None) → IfSome known (λ text. (s : ℕ) → shown (sent_by traces s) ≡ sent s (pairs_of text))
    → IfSome known (λ text. Tells text traces)
trace-tells None traces sound told = tt
trace-tells (Some text) traces sound told = record { sound = sound; sent = told }

-- the tallies of a run account for what its devices emitted
pub accounted : (keeps : Keeps) (plan : List Planned) (traces : List (List Packet)) (step limit : ℕ) (outcome : Outcome PackedLog) → RunsAccountForEmitted plan → (run : IsKeptRun keeps plan traces step limit outcome)
    → AccountFor (flat_map (λ (emitted : List Packet). emitted) run.packets) outcome.tallies.items
accounted keeps plan traces step limit outcome account run = account traces step limit run.logs run.packets outcome.tallies.items run.is

-- what a run over it writes
pub run-writes : (plan : List Planned) (pace : Pace) (known : Option (List ℕ)) (traces : List (List Packet)) (logs : List (List Visit)) (packets : List (List Packet)) (tallies : List Tally) → IfSome known (λ text. Tells text traces)
    → first_unknown (senders_in plan) traces ≡ None → IsRunWith plan traces pace.step pace.limit logs packets tallies → RunWrites plan pace known (report_text (flat_map (λ emitted. emitted) packets) tallies) logs
run-writes plan pace known traces logs packets tallies tells all is = record { traces = traces; tells = tells; known = all; emitted = packets; tallies = tallies; came_to = is; reported = refl }
