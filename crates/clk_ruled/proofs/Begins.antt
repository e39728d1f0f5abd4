-- How a queue is made, and how it is opened.
use Rattle.std.proofs.Common.{◌≡◌, ℕ, ◌≤◌, true≢false, List, [], ◌∷◌, length, set, sym, ap, arith, rules}
use Rattle.std.proofs.lemmas.Grind.{common_steps}
use Rattle.std.proofs.lemmas.Bool.Decides.{nat_tests}
use mathlib.Core.Option.{none}
use Rattle.crossbeam_queue.specs.Fifo.{Forks}
use Rattle.clk_packet.specs.declared.packet.Packet.{Packet}
use Rattle.clk_ruled.specs.declared.view.QueueSetup.{QueueSetup}
use Rattle.clk_ruled.specs.declared.view.View.{View}
use Rattle.clk_packet.specs.Lists.{stands_in, AreRising}
use Rattle.clk_ruled.specs.Rooms.{named_in}
use Rattle.clk_ruled.specs.Rule.{Books, FitsTap, Fits, Keeps}
use Rattle.clk_ruled.specs.inside.Rule.{no_setup, spent_view, blank_view, tap_view}
use Rattle.clk_ruled.proofs.Changes.{all-set, all-snoc}

-- A queue is made, before it is opened.
pub begins : Keeps [] (blank_view ∷ [])
begins =
    let c : Books = record { setup = no_setup; all = []; gone = []; seat = λ _. none; tap = 0 } in
    let tap : FitsTap c 0 blank_view = search rules in (
      c,
      search rules,
      search rules,
    )

-- A queue is opened.
no-items : (items : List Packet) → length items ≤ 0 → items ≡ []
no-items items h = grind (arith, common_steps, nat_tests)

pub opens : (pass : ℕ) (v : View) (setup : QueueSetup) → AreRising (named_in setup.rooms) → v ≡ blank_view → Forks Keeps pass v (tap_view setup [] [] []) spent_view
opens pass v setup rise is items views h at =
    let b : Books = h.0 in let f : FitsTap b pass v = (h.2 pass v at).1 (ap (λ (y : View). y.taps) is) in
    let none_given : v.given ≡ [] = ap (λ (y : View). y.given) is in
    let nothing : items ≡ [] = search (rules, no-items) in
    let c : Books = record { setup = setup; all = []; gone = []; seat = λ _. none; tap = pass } in
    let left : View = tap_view setup [] [] [] in
    let no_seat : (s : ℕ) → b.seat s ≡ none = λ s. (f.fresh s (ap (λ l. stands_in s l) none_given)).seat in
    let tap : FitsTap c pass left = search rules in (
      c,
      search rules,
      all-snoc (Fits c) (set views pass left) spent_view
          (all-set (Fits b) (Fits c) views pass left h.2 ((λ e. absurd (true≢false (sym e))), λ _. tap)
          (search rules))
          ((λ e. absurd (true≢false (sym e))), λ e. absurd (true≢false (sym e))),
    )
