use Rattle.std.proofs.Common.{◌≡◌, map, get_or, ap, length, arith}
use Rattle.clk_packet.specs.declared.packet.Packet.{Packet}
use Rattle.clk_script.proofs.laws.script_examples.Goals as goal

pub returns-clause-not_number_left_out : goal.returns-clause-not_number_left_out
returns-clause-not_number_left_out c = λ can. let numbers = can.numbered 0 in absurd (cc)

pub returns-clause-not_refused_early : goal.returns-clause-not_refused_early
returns-clause-not_refused_early c = λ can. let history = can.histories 1 in absurd (omega (arith, history.1.1))

pub returns-clause-not_never_sent : goal.returns-clause-not_never_sent
returns-clause-not_never_sent c = λ can. let history = can.histories 1 in absurd (omega (arith, ap length history.3.order))

pub returns-clause-not_other_refused : goal.returns-clause-not_other_refused
returns-clause-not_other_refused c = λ can. let named = ap (λ (p : Packet). p.number) can.refusals.1.1.0 in absurd (omega (arith, named))

pub returns-clause-not_moment_not_counted : goal.returns-clause-not_moment_not_counted
returns-clause-not_moment_not_counted c = λ can.
    let runs = can.runs 0 in
    let second : 3 ≡ 5 = ap (λ l. get_or l 1 0) runs.moments in
    absurd (omega (arith, second))

pub returns-clause-not_moment_ahead : goal.returns-clause-not_moment_ahead
returns-clause-not_moment_ahead c = λ can.
    let runs = can.runs 0 in
    let first : 4 ≡ 3 = ap (λ l. get_or l 0 0) runs.moments in
    absurd (omega (arith, first))

pub returns-clause-not_second_first : goal.returns-clause-not_second_first
returns-clause-not_second_first c = λ can.
    let runs = can.runs 0 in
    let asked = runs.run.below.0.0.0.follows.in_order in
    absurd (omega (arith, asked.0))

pub returns-clause-not_swapped : goal.returns-clause-not_swapped
returns-clause-not_swapped c = λ can.
    let history = can.histories 0 in
    let first : 100 ≡ 50 = ap (λ l. get_or (map (λ (p : Packet). p.length) l) 0 0) history.3.3.order in
    absurd (omega (arith, first))

pub returns-clause-not_moment_shared : goal.returns-clause-not_moment_shared
returns-clause-not_moment_shared c = λ can.
    let runs = can.runs 1 in
    let first : 5 ≡ 3 = ap (λ l. get_or l 0 0) runs.moments in
    absurd (omega (arith, first))
