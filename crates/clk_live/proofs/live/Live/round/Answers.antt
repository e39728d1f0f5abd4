use Rattle.std.proofs.Common.{◌+◌, ◌≡◌, ◌-◌, ◌<◌, ◌≤◌, nat_lt, inl, inr, true, false, if◌then◌else◌, ◌∙◌, length, take, slice_get, sym, ap, ap₂, subst, arith}
use Rattle.std.proofs.lemmas.List.{length-map, take_all}
use Rattle.std.proofs.lemmas.Bool.Decides.{nat_tests}
use Rattle.clk_inlet.specs.Halves.{taken}
use Rattle.clk_packet.specs.Lists.{AreRising}
use Rattle.clk_live.proofs.Lists.{zip-length}
use Rattle.clk_router.specs.Events.{Setup, sender_numbers}
use Rattle.clk_tree.specs.PlanParts.{number_of}
use Rattle.clk_live.specs.State.{LiveState, seen, starts_at, GoesOn, AllGoOn}
use Rattle.clk_live.specs.Taking.{AreTaken, AreSharesOr, AreSharesBefore}
use Rattle.clk_live.specs.inside.Each.{AreEach, GaveAllWanted, GaveSharesOr, IsLast}
use Rattle.clk_live.proofs.Fitting.{wanted-later, wanted-before, wanted-turn}
use Rattle.clk_live.proofs.Outlets.{all-then}
use Rattle.clk_live.proofs.SoFar.{taken-none}
use Rattle.clk_live.proofs.Rounds.{lt-or, round-shares, round-before, shares-before, starts-next}
use Rattle.clk_live.proofs.live.Live.round.Goals.{then-next-places, else-next-places, then-count-eq0, else-count-eq0, then-count-taken, else-count-taken}
use Rattle.clk_live.proofs.live.Live.round.Goals as goal

pub returns-clause-taken : goal.returns-clause-taken
returns-clause-taken c =
    let a = c.sweep-count in
    let b = c.sweep-count-2 in
    subst (λ (l : LiveState). AreTaken (seen c.args.self.now) (seen l) c.args.taken.now b.new.taken b.result.0) (sym c.self-2.view_is)
    (b.ensures.taken (seen c.args.self.now) c.args.taken.now (a.ensures.taken (seen c.args.self.now) c.args.taken.now (taken-none (seen c.args.self.now) c.args.taken.now)))

pub returns-clause-outlets : goal.returns-clause-outlets
returns-clause-outlets c =
    let a = c.sweep-count in
    let b = c.sweep-count-2 in
    subst (λ (l : LiveState). AllGoOn c.args.self.now.outlets l.outlets) (sym c.self-2.view_is) (all-then c.args.self.now.outlets a.new.self.outlets b.new.self.outlets a.ensures.outlets b.ensures.outlets)

pub returns-clause-shares : goal.returns-clause-shares
returns-clause-shares c =
    let a = c.sweep-count in
    let b = c.sweep-count-2 in
    let old = c.args.self.now in
    let places : c.len-places.result ≡ length (sender_numbers old.course.setup) =
    subst (λ (l : LiveState). c.len-places.result ≡ length (sender_numbers l.course.setup)) c.self.view_is
    (let many = c.len-places.ensures in let same = sym (length-map c.self.inside.outlets.items taken) ∙ c.self.invariant.places in let numbers = length-map c.self.inside.router.setup.senders number_of in omega (arith, many, same, numbers))
    in
    let flag = c.args.only_fitting in
    let turn = c.if-count-taken.self in
    λ fewer.
    (let first = a.ensures.shares (let up = b.ensures.count.0 in let same = a.auto.taken in omega (arith, up, fewer)) in
    let second = b.ensures.shares (let same = a.auto.taken in omega (arith, fewer, same)) in
    let new : LiveState = record { course = b.new.self.course; outlets = b.new.self.outlets; turn = c.if-count-taken.self } in
    subst (λ (l : LiveState). AreSharesOr (GaveAllWanted flag old (record { course = l.course; outlets = l.outlets; turn = turn })) old.course.setup c.args.each (take b.result.0 b.new.taken)) (sym c.self-2.view_is)
    (round-shares (GaveAllWanted flag old a.new.self) (GaveAllWanted flag a.new.self b.new.self) (GaveAllWanted flag old new) old.course.setup c.starts_at-start.result c.len-places.result c.args.each (take a.result.0 a.new.taken) (take b.result.0 b.new.taken)
    (λ place gave. wanted-turn flag old b.new.self turn place (wanted-later old a.new.self b.new.self a.ensures.outlets b.ensures.outlets flag b.ensures.full place gave))
    (λ place gave. wanted-turn flag old b.new.self turn place (wanted-before old a.new.self b.new.self a.ensures.outlets b.ensures.outlets flag place gave)) places a.ensures.each
    (subst (λ (s : Setup). AreEach s 0 c.starts_at-start.result c.args.each (take a.result.0 a.new.taken) (take b.result.0 b.new.taken)) a.ensures.setup b.ensures.each) first
    (subst (λ (s : Setup). GaveSharesOr (GaveAllWanted flag a.new.self b.new.self) s 0 c.starts_at-start.result c.args.each (take a.result.0 a.new.taken) (take b.result.0 b.new.taken)) a.ensures.setup second)))

pub returns-clause-in_turn : goal.returns-clause-in_turn
returns-clause-in_turn c =
    let a = c.sweep-count in
    let b = c.sweep-count-2 in
    let old = c.args.self.now in
    let flag = c.args.only_fitting in
    let size = length c.args.taken.now in
    let rising : AreRising (sender_numbers old.course.setup) = subst (λ (l : LiveState). AreRising (sender_numbers l.course.setup)) c.self.view_is (rw (c.senders.ensures.numbers, c.deref.ensures) at c.senders.ensures.rising) in
    let outlets : c.len-places.result ≡ length old.outlets = subst (λ (l : LiveState). c.len-places.result ≡ length l.outlets) c.self.view_is (let many = c.len-places.ensures in omega (arith, many)) in
    let places : c.len-places.result ≡ length (sender_numbers old.course.setup) =
    subst (λ (l : LiveState). c.len-places.result ≡ length (sender_numbers l.course.setup)) c.self.view_is
    (let many = c.len-places.ensures in let same = sym (length-map c.self.inside.outlets.items taken) ∙ c.self.invariant.places in let numbers = length-map c.self.inside.router.setup.senders number_of in omega (arith, many, same, numbers))
    in
    let same : length a.new.taken ≡ size = a.auto.taken in
    let turn = c.if-count-taken.self in
    let new : LiveState = record { course = b.new.self.course; outlets = b.new.self.outlets; turn = turn } in
    let last = slice_get b.new.taken (b.result.0 - 1) in
    let full : b.result.0 ≡ size → AreSharesBefore (GaveAllWanted flag old new) old.course.setup c.starts_at-start.result c.len-places.result c.args.each last (take b.result.0 b.new.taken) =
    λ all.
    (round-before (GaveAllWanted flag old a.new.self) (GaveAllWanted flag a.new.self b.new.self) (GaveAllWanted flag old new) old.course.setup c.starts_at-start.result c.len-places.result c.args.each a.result.0 size b.result.0 a.result.1 b.result.1 a.new.taken b.new.taken
    (λ place gave. wanted-turn flag old b.new.self turn place (wanted-later old a.new.self b.new.self a.ensures.outlets b.ensures.outlets flag b.ensures.full place gave))
    (λ place gave. wanted-turn flag old b.new.self turn place (wanted-before old a.new.self b.new.self a.ensures.outlets b.ensures.outlets flag place gave)) rising places a.ensures.each
    (subst (λ (s : Setup). AreEach s 0 c.starts_at-start.result c.args.each (take a.result.0 a.new.taken) (take b.result.0 b.new.taken)) a.ensures.setup b.ensures.each) a.ensures.shares a.ensures.in_turn
    (subst (λ (s : Setup). GaveSharesOr (GaveAllWanted flag a.new.self b.new.self) s 0 (b.result.1 - 1) c.args.each (take a.result.0 a.new.taken) (take b.result.0 b.new.taken)) a.ensures.setup (b.ensures.in_turn (omega (arith, all, same))))
    b.ensures.count.0 all (b.auto.taken ∙ same) a.ensures.last (subst (λ (s : Setup). IsLast s 0 a.result.0 b.new.taken b.result.0 b.result.1) a.ensures.setup (b.ensures.last (omega (arith, all, same))))
    (λ first. sym (take_all a.result.0 b.new.taken (omega (arith, first, b.auto.taken, same))) ∙ b.ensures.front ∙ take_all a.result.0 a.new.taken (omega (arith, first, same))) b.ensures.count.2)
    in
    let fewer : b.result.0 < size → AreSharesBefore (GaveAllWanted flag old new) old.course.setup c.starts_at-start.result c.len-places.result c.args.each last (take b.result.0 b.new.taken) =
    λ less.
    shares-before (GaveAllWanted flag old new) old.course.setup c.starts_at-start.result c.len-places.result c.args.each last (take b.result.0 b.new.taken)
    (subst (λ (l : LiveState). AreSharesOr (GaveAllWanted flag old (record { course = l.course; outlets = l.outlets; turn = turn })) old.course.setup c.args.each (take b.result.0 b.new.taken)) c.self-2.view_is (returns-clause-shares c less))
    in
    subst (λ (l : LiveState). AreSharesBefore (GaveAllWanted flag old (record { course = l.course; outlets = l.outlets; turn = turn })) old.course.setup (starts_at old) (length old.outlets) c.args.each last (take b.result.0 b.new.taken)) (sym c.self-2.view_is)
    (subst (λ (from : _ × _). AreSharesBefore (GaveAllWanted flag old new) old.course.setup from.0 from.1 c.args.each last (take b.result.0 b.new.taken)) (ap₂ (λ x y. (x, y)) c.starts_at-start.ensures.value outlets)
    (elim (lt-or b.result.0 size) [
      | inl less ↦ fewer less
      | inr all ↦ full (omega (arith, all, b.ensures.count.1, same))
    ]))

pub returns-clause-turn : goal.returns-clause-turn
returns-clause-turn c =
    let a = c.sweep-count in
    let b = c.sweep-count-2 in
    let old = c.args.self.now in
    let rising : AreRising (sender_numbers old.course.setup) = subst (λ (l : LiveState). AreRising (sender_numbers l.course.setup)) c.self.view_is (rw (c.senders.ensures.numbers, c.deref.ensures) at c.senders.ensures.rising) in
    let places : c.len-places.result ≡ length old.outlets = subst (λ (l : LiveState). c.len-places.result ≡ length l.outlets) c.self.view_is (let many = c.len-places.ensures in omega (arith, many)) in
    let first = zip-length GoesOn old.outlets a.new.self.outlets a.ensures.outlets in
    let second = zip-length GoesOn a.new.self.outlets b.new.self.outlets b.ensures.outlets in
    let same_many : length c.self-2.inside.outlets.items ≡ length old.outlets = subst (λ (l : LiveState). length l.outlets ≡ length old.outlets) (sym c.self-2.view_is) (omega (arith, first, second)) in
    let size : length b.new.taken ≡ length c.args.taken.now = b.auto.taken ∙ a.auto.taken in
    let low : c.starts_at-start.result ≤ c.len-places.result = (let within = c.starts_at-start.ensures.within in omega (arith, within, places)) in
    let last = if nat_lt a.result.1 c.len-places.result then a.result.1 else b.result.1 in
    let after : c.if-next-places.after_last ≡ last =
    elim c.if-next-places.branch [
      | then-next-places w ↦
          let below : nat_lt a.result.1 c.len-places.result ≡ true = (let lt = w.if-next-places.true in grind (arith, nat_tests)) in
          w.after_last-is ∙ sym (ap (λ t. if t then a.result.1 else b.result.1) below)
      | else-next-places w ↦
          let above : nat_lt a.result.1 c.len-places.result ≡ false = (let le = w.if-next-places.false in grind (arith, nat_tests)) in
          w.after_last-is ∙ sym (ap (λ t. if t then a.result.1 else b.result.1) above)
    ]
    in
    let later : (b.result.0 ≡ 0 → c.if-count-eq0.later ≡ c.starts_at-start.result) × (0 < b.result.0 → c.if-count-eq0.later ≡ c.starts_at-start.result + 1) =
    elim c.if-count-eq0.branch [
      | then-count-eq0 w ↦ ((λ none. w.later-is), (λ some. let zero_is = w.if-count-eq0.true in absurd (omega (arith, some, zero_is))))
      | else-count-eq0 w ↦ ((λ none. absurd (w.if-count-eq0.false none)), (λ some. w.later-is))
    ]
    in
    let turn : c.if-count-taken.self ≡ (if nat_lt b.result.0 (length c.args.taken.now) then c.if-count-eq0.later else last) =
    elim c.if-count-taken.branch [
      | then-count-taken w ↦
          let fewer : nat_lt b.result.0 (length c.args.taken.now) ≡ true = (let lt = w.if-count-taken.true in grind (arith, nat_tests, size)) in
          w.self-is ∙ sym (ap (λ t. if t then c.if-count-eq0.later else last) fewer)
      | else-count-taken w ↦
          let full : nat_lt b.result.0 (length c.args.taken.now) ≡ false = (let le = w.if-count-taken.false in grind (arith, nat_tests, size)) in
          w.self-is ∙ after ∙ sym (ap (λ t. if t then c.if-count-eq0.later else last) full)
    ]
    in
    starts-next old (record { course = c.self-2.inside.router; outlets = c.self-2.inside.outlets.items; turn = c.if-count-taken.self }) c.len-places.result c.starts_at-start.result a.result.1 b.result.1 c.if-count-eq0.later a.result.0 (length c.args.taken.now) b.result.0 a.new.taken b.new.taken rising
    places same_many c.starts_at-start.ensures.value low a.ensures.ended b.ensures.count.0 (let most = b.ensures.count.1 in let same = a.auto.taken in omega (arith, most, same)) size a.ensures.last
    (λ full. subst (λ (s : Setup). IsLast s 0 a.result.0 b.new.taken b.result.0 b.result.1) a.ensures.setup (b.ensures.last (let same = a.auto.taken in omega (arith, full, same))))
    (λ full. sym (take_all a.result.0 b.new.taken (omega (arith, full, size))) ∙ b.ensures.front ∙ take_all a.result.0 a.new.taken (let same = a.auto.taken in omega (arith, full, same))) a.ensures.count.2 b.ensures.count.2 turn later.0 later.1
