-- The bucket of a Shaper from turn to turn.
use Rattle.std.proofs.Common.{◌≡◌, ℕ, ◌+◌, ◌-◌, ◌*◌, ◌≤◌, ◌<◌, ◌&&◌, min, nat_le, nat_lt, if◌then◌else◌, Bool, true, false, List, [], ◌∷◌, None, is_some, refl, sym, ap, ap₂, ◌∙◌, mul-add, arith, rules}
use Rattle.std.proofs.lemmas.Bool.Decides.{nat_tests}
use Rattle.clk_sched.specs.declared.session.shaper.Bucket.{Bucket}
use Rattle.clk_sched.specs.Turns.{Turn, giver}
use Rattle.clk_sched.specs.Laws.Shaper.{has_passed, packets_passed, keeps_since_each}
use Rattle.clk_sched.specs.inside.Holds.Shaper.{AreBefore, tokens_at, HoldsBucket, IsTaken, Tells, has_room}

-- whether there is room follows from how many packets passed later
pub room-same : (rate burst moment : ℕ) (later other earlier : List Turn) → packets_passed later ≡ packets_passed other → keeps_since_each rate burst moment later earlier ≡ keeps_since_each rate burst moment other earlier
room-same rate burst moment later other [] e = refl
room-same rate burst moment later other (t ∷ earlier) e =
    let one : packets_passed (t ∷ later) ≡ packets_passed (t ∷ other) = ap (λ n. if has_passed t then n + 1 else n) e in
    ap₂ (λ n rest. (if has_passed t then nat_le (n + 1 + rate * t.moment) (burst + rate * moment) else true) && rest) one (room-same rate burst moment (t ∷ later) (t ∷ other) earlier one)

-- a turn that passed nothing takes no room
pub room-unpassed : (rate burst moment : ℕ) (later : List Turn) (t : Turn) (earlier : List Turn) → has_passed t ≡ false → keeps_since_each rate burst moment later (t ∷ earlier) ≡ keeps_since_each rate burst moment later earlier
room-unpassed rate burst moment later t earlier none = search (rules, room-same)

-- one that passed a packet
pub room-passed : (rate burst moment : ℕ) (later : List Turn) (t : Turn) (earlier : List Turn) → has_passed t ≡ true
    → keeps_since_each rate burst moment later (t ∷ earlier) ≡ (nat_le (packets_passed later + 2 + rate * t.moment) (burst + rate * moment) && keeps_since_each rate burst moment (t ∷ later) earlier)
room-passed rate burst moment later t earlier passed = search rules

-- room in all windows after one more is passed, in numbers: `fresh` were added since the filling before, and `more` since
room-after : (since burst tokens fresh more : ℕ) (wide rest : Bool) → 1 ≤ burst → 1 ≤ tokens + fresh
    → (since + 2 ≤ burst + more → wide ≡ true) → (burst + more < since + 2 → wide ≡ false)
    → (since + 2 ≤ burst + more → rest ≡ nat_le (since + 2) (tokens + (fresh + more)))
    → (wide && rest) ≡ nat_le (since + 1) ((min (tokens + fresh) burst - 1) + more)
room-after since burst tokens fresh more wide rest some token is not_is at = search rules

-- a token is taken at a turn that passed
pub bucket-taken : (rate burst : ℕ) (turns : List Turn) (t : Turn) (b c : Bucket) → HoldsBucket rate burst turns b → AreBefore t.moment turns
    → has_room rate burst t.moment turns ≡ true → is_some (giver t.visits) ≡ true
    → c.rate ≡ b.rate → c.burst ≡ b.burst → c.filled ≡ t.moment → c.tokens ≡ tokens_at b t.moment - 1 → HoldsBucket rate burst (t ∷ turns) c
bucket-taken rate burst turns t b c h before token passed rate_is burst_is filled_is tokens_is = grind (arith, nat_tests, room-passed, mul-add, room-after)

-- nothing is taken at a turn that passed nothing
pub bucket-none : (rate burst : ℕ) (turns : List Turn) (t : Turn) (b : Bucket) → HoldsBucket rate burst turns b → giver t.visits ≡ None → HoldsBucket rate burst (t ∷ turns) b
bucket-none rate burst turns t b h none = search rules

-- a token that was taken is given back, after a turn that passed nothing
pub bucket-back : (rate burst : ℕ) (turns : List Turn) (t : Turn) (b c d : Bucket) → HoldsBucket rate burst turns b → AreBefore t.moment turns → IsTaken b c t.moment → giver t.visits ≡ None
    → d.rate ≡ c.rate → d.burst ≡ c.burst → d.filled ≡ c.filled → d.tokens ≡ min (c.tokens + 1) c.burst → HoldsBucket rate burst (t ∷ turns) d
bucket-back rate burst turns t b c d h before taken none rate_is burst_is filled_is tokens_is = grind (arith, nat_tests, room-unpassed, mul-add)

tells-same : (tokens fresh burst : ℕ) → 1 ≤ burst → nat_lt 0 (min (tokens + fresh) burst) ≡ nat_le (0 + 1) (tokens + fresh)
tells-same tokens fresh burst some = grind (arith, nat_tests)

-- There is a token exactly if there is room for a packet.
pub bucket-tells : (b : Bucket) (moment : ℕ) → Tells b moment (nat_lt 0 (tokens_at b moment))
bucket-tells b moment rate burst turns h before =
    let some = b.holds_some in
    let same = h.burst_is in
    tells-same b.tokens (b.rate * (moment - b.filled)) b.burst some ∙ ap (λ r. nat_le (0 + 1) (b.tokens + r * (moment - b.filled))) h.rate_is
    ∙ sym (h.room moment [] (h.filled moment before) (omega (arith, some, same)))
