-- The longest packet, one packet more.
use Rattle.std.proofs.Common.{◌≡◌, ◌≢◌, ℕ, zero, suc, ◌-◌, List, [], ◌∷◌, max, drop, Option, Some, slice_get, get_or, refl, ap, sym, ◌∙◌, arith}
use Rattle.clk_packet.specs.declared.packet.Packet.{Packet}
use Rattle.std.specs.Option.{option_map_or}
use Rattle.clk_tree.specs.Plan.{Planned}
use Rattle.clk_lint.specs.Load.{greatest, longest_at, longest_of, sources_at}

pub longest-more : (packets : List Packet) (n far here : ℕ) → here ≡ option_map_or (λ (p : Packet). p.length) (slice_get packets n) 0 → max (max here far) (longest_of (drop (suc n) packets)) ≡ max far (longest_of (drop n packets))
longest-more [] zero far here e = omega (arith, e)
longest-more [] (suc n) far here e = omega (arith, e)
longest-more (p ∷ packets) zero far here e = omega (arith, e)
longest-more (p ∷ packets) (suc n) far here e = longest-more packets n far here e

-- The longest packet of an element with levels below it: its own, or that of its sources.
pub longest-there : (plan : List Planned) (sent : List ℕ) (levels place : ℕ) (e : Planned) (own below all : ℕ) → levels ≢ 0 → slice_get plan place ≡ Some e
    → own ≡ get_or sent place 0 → below ≡ greatest (longest_at plan sent (levels - 1)) e.sources → all ≡ max own below → all ≡ longest_at plan sent levels place
longest-there plan sent zero place e own below all some there mine far greater = absurd (some refl)
longest-there plan sent (suc levels) place e own below all some there mine far greater =
    let less : suc levels - 1 ≡ levels = omega arith in
    let deeper : below ≡ greatest (longest_at plan sent levels) (sources_at plan place)
    = far ∙ (ap (λ (n : ℕ). greatest (longest_at plan sent n) e.sources) less ∙ ap (λ (o : Option Planned). greatest (longest_at plan sent levels) (option_map_or (λ (e : Planned). e.sources) o [])) (sym there)) in
    greater ∙ (ap (λ (n : ℕ). max n below) mine ∙ ap (max (get_or sent place 0)) deeper)
