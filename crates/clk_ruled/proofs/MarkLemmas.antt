-- Packets are marked by sender and number.
use Rattle.std.proofs.Common.{◌≡◌, ℕ, ◌<◌, ◌==◌, ◌&&◌, ◌||◌, ◌/◌, ◌%◌, Bool, false, List, [], length, map, get_or, set, ap, ◌∙◌, rules}
use Rattle.std.proofs.lemmas.List.{map-set, length-map, get_or-map}
use Rattle.clk_ruled.specs.declared.settling.marks.Page.{Page}
use Rattle.clk_ruled.specs.inside.Marks.{is_on, numbers_on}

-- Where one place tells more than it did, the list tells so much more, there alone.
pub more-there : {X Y : Type 0} → (f : X → Y) (list : List X) (place k : ℕ) (old new : X) (none : Y) (read : Y → Bool) (more : Bool) → place < length list → old ≡ get_or list place old → read (f new) ≡ (more || read (f old))
    → read (get_or (map f (set list place new)) k none) ≡ (((k == place) && more) || read (get_or (map f list) k none))
more-there f list place k old new none read more lt is told = search (rules, map-set, length-map, get_or-map)

-- One packet is marked where one number is, of its sender's place on its page.
pub packet-marked : (pages : List Page) (page sender number s n : ℕ) (old new : Page) → page ≡ sender / 256 → page < length pages → old ≡ get_or pages page old
    → ((place k : ℕ) → is_on new place k ≡ (((place == (sender % 256)) && (k == number)) || is_on old place k))
    → get_or (get_or (map numbers_on (set pages page new)) (s / 256) (λ _. []) (s % 256)) n false ≡ (((s == sender) && (n == number)) || get_or (get_or (map numbers_on pages) (s / 256) (λ _. []) (s % 256)) n false)
packet-marked pages page sender number s n old new its lt is one =
    more-there numbers_on pages page (s / 256) old new (λ _. []) (λ numbers. get_or (numbers (s % 256)) n false) (((s % 256) == (sender % 256)) && (n == number)) lt is (one (s % 256) n)
    ∙ ap (λ b. b || get_or (get_or (map numbers_on pages) (s / 256) (λ _. []) (s % 256)) n false)
    (search rules)
