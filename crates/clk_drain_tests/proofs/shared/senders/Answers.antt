use Rattle.std.proofs.Common.{◌≡◌, ℕ, ◌+◌, ◌<◌, List, ◌++◌, length, get_or, drop, sym, ap, ◌∙◌, arith}
use Rattle.std.proofs.lemmas.List.{map-append, at_drop_more}
use Rattle.clk_ruled.specs.Queue.{SeatLists, ClosedLists}
use Rattle.clk_ruled.specs.Settle.{lists_of, accepted_count}
use Rattle.clk_drain.specs.Line.{LineLists, seats_of, seats_in, senders_at}
use Rattle.clk_drain.specs.Closing.{accepted_over}
use Rattle.clk_drain_tests.proofs.shared.senders.Goals as goal

-- the senders of the lines that are left, where these are the seats of the next
senders-next : (lines : List LineLists) (i : ℕ) (l : LineLists) (closed : List ClosedLists) → i < length lines → l ≡ get_or lines i l → closed ≡ l.closed
    → senders_at (seats_in (drop i lines)) ≡ senders_at (lists_of closed) ++ senders_at (seats_in (drop (i + 1) lines))
senders-next lines i l closed lt here is =
    at_drop_more (λ ls. senders_at (seats_in ls)) lines i l lt ∙ map-append (λ (s : SeatLists). s.sender) (seats_of (get_or lines i l)) (seats_in (drop (i + 1) lines))
    ∙ ap (λ c. senders_at (lists_of c) ++ senders_at (seats_in (drop (i + 1) lines))) (ap (λ (x : LineLists). x.closed) (sym here) ∙ sym is)

accepted-next : (lines : List LineLists) (i : ℕ) (l : LineLists) (closed : List ClosedLists) → i < length lines → l ≡ get_or lines i l → closed ≡ l.closed
    → accepted_over (drop i lines) ≡ accepted_count (lists_of closed) + accepted_over (drop (i + 1) lines)
accepted-next lines i l closed lt here is =
    at_drop_more accepted_over lines i l lt ∙ ap (λ c. accepted_count (lists_of c) + accepted_over (drop (i + 1) lines)) (ap (λ (x : LineLists). x.closed) (sym here) ∙ sym is)

pub loop-seat-init : goal.loop-seat-init
loop-seat-init g c =
    let seats : c.deref-seat-items.result.now ≡ c.line-item.result.closed = c.deref-seat-items.ensures.value ∙ ap (λ (l : LineLists). l.closed) c.line.view_is in
    let lt = c.loop-line-test.true in record {
      all = ap (λ s. c.loop-line.senders.items ++ s) (sym (senders-next c.args.lines.now c.loop-line.line-index c.line-item.result c.deref-seat-items.result.now lt c.line-item.is seats)) ∙ c.loop-line.invariant.all;
      few = omega (arith, accepted-next c.args.lines.now c.loop-line.line-index c.line-item.result c.deref-seat-items.result.now lt c.line-item.is seats);
    }
