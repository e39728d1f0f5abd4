-- Each input of an element that is no queue has a queue or a scheduler, whose output leads there; and the ways of schedulers to a device
-- are no longer than is allowed.
use Rattle.std.proofs.Common.{◌≡◌, ℕ, ◌+◌, ◌<◌, ◌≤◌, ◌||◌, nat_lt, ◌⊎◌, inl, inr, zero, suc, Bool, true, false, if◌then◌else◌, List, [], ◌∷◌, length, Option, Some, None, option_map, refl, sym, ap, subst, ◌∙◌, arith, eqb-true, rules}
use Rattle.std.specs.List.{AllByRecursion}
use Rattle.std.proofs.lemmas.Bool.{and_parts, false≢true, cases_lt, cases_eq}
use Rattle.clk_packet.specs.declared.fault.Fault.{Fault}
use Rattle.clk_packet.specs.declared.fault.Fault.TheVariants.{NoDevice, TooLarge}
use Rattle.clk_packet.specs.declared.limits.TheConstants.{MAX_ELEMENTS, MAX_LEVELS}
use Rattle.clk_packet.proofs.Callers.Lists.{all-both}
use Rattle.clk_syntax.specs.declared.naming.class.Role.{Role}
use Rattle.clk_syntax.specs.declared.naming.class.Role.TheVariants as role
use Rattle.clk_syntax.specs.declared.node.Node.{Node}
use Rattle.clk_syntax.specs.declared.node.Link.{Link}
use Rattle.clk_syntax.specs.Ports.{role_at, is_source, is_queue, is_device, is_scheduler, has_output, uses_input, inputs_of, all_connected, next, follow, leads, bad_port, port_twice, port_missing, wrong_kind, has_device, not_a_tree}
use Rattle.clk_syntax.specs.Size.{levels_from, some_too_large, too_large}
use Rattle.clk_syntax.specs.Faults.{nodes_fault}
use Rattle.clk_syntax.proofs.Callers.Graphs.{bad-port-first, wrong-kind-first}
use Rattle.clk_syntax.proofs.Callers.Checks.{neither}
use Rattle.clk_tree.specs.Plan.{source_at}
use Rattle.clk_tree.proofs.Sound.SoundChecks.{IsRight, all-right, all-next, IsConnected, connected-at, leads-at, IsSmall, small-at}

-- elements and connections in which no check of ports, of the tree and of sizes finds a fault
pub record AreSound (nodes : List Node) (links : List Link) : Type 0 where
  pub right : AllByRecursion (IsRight nodes) links
  pub onward : AllByRecursion (λ (c : Link). next links c.from ≡ c.to) links
  pub connected : (i : ℕ) (r : Role) → role_at nodes i ≡ Some r → IsConnected links i r
  pub ends : (i : ℕ) (r : Role) → role_at nodes i ≡ Some r → is_scheduler (Some r) ≡ true → leads nodes links i ≡ true
  pub small : (i : ℕ) (r : Role) → role_at nodes i ≡ Some r → IsSmall nodes links i r
  pub device : has_device nodes ≡ true
  pub once : port_twice nodes links ≡ None

pub none-of : (fault : ℕ → Fault) (place : Option ℕ) → option_map fault place ≡ None → place ≡ None
none-of fault place e = search rules

-- No check finds a fault.
pub record AreFaultless (nodes : List Node) (links : List Link) : Type 0 where
  pub ports : bad_port nodes links ≡ None
  pub twice : port_twice nodes links ≡ None
  pub missing : port_missing nodes links ≡ None
  pub kinds : wrong_kind nodes links ≡ None
  pub device : (if has_device nodes then None else Some NoDevice) ≡ None
  pub tree : not_a_tree nodes links ≡ None
  pub size : (if too_large nodes links then Some TooLarge else None) ≡ None

pub each-check : (nodes : List Node) (links : List Link) → nodes_fault nodes links ≡ None → AreFaultless nodes links
each-check nodes links e = search (rules, neither, none-of)

zeroth : (i : ℕ) → 0 + i ≡ i
zeroth i = omega arith

pub are-sound : (nodes : List Node) (links : List Link) → nodes_fault nodes links ≡ None → AreSound nodes links
are-sound nodes links e =
    let all = each-check nodes links e in
    record {
      right = all-right nodes links (bad-port-first nodes links ∙ all.ports) (wrong-kind-first nodes links ∙ all.kinds);
      onward = all-next nodes [] links all.twice;
      connected = λ i r at. subst (λ j. IsConnected links j r) (zeroth i) (connected-at links 0 nodes i r all.missing at);
      ends = λ i r at is. subst (λ j. leads nodes links j ≡ true) (zeroth i) (leads-at nodes links 0 nodes i r all.tree at is);
      small = λ i r at. subst (λ j. IsSmall nodes links j r) (zeroth i) (small-at nodes links 0 nodes i r (no-size (nat_lt MAX_ELEMENTS (length nodes)) (some_too_large 0 nodes nodes links) all.size) at);
      device = has (has_device nodes) all.device;
      once = all.twice;
    }
  where
    has : (b : Bool) → (if b then None else Some NoDevice) ≡ None → b ≡ true
    has b e = search (rules, each-check, all-right, bad-port-first, wrong-kind-first, all-next, zeroth, connected-at, leads-at, small-at)

    no-size : (a b : Bool) → (if a || b then Some TooLarge else None) ≡ None → b ≡ false
    no-size a b e = search (rules, each-check, all-right, bad-port-first, wrong-kind-first, all-next, zeroth, connected-at, leads-at, small-at)

-- the connection to an input that is used
pub record IsLinkTo (P : Link → Type 0) (links : List Link) (i input : ℕ) : Type 0 where
  pub link : Link
  pub has : P link
  pub to : link.to ≡ i
  pub at_input : link.input ≡ input
  pub source : source_at links i input ≡ link.from

pub link-to : (P : Link → Type 0) (links : List Link) (i input : ℕ) → AllByRecursion P links → uses_input i input links ≡ true → IsLinkTo P links i input
link-to P [] i input all uses = absurd (cc)
link-to P (c ∷ links) i input all uses = search (rules, eqb-true, and_parts, (link-to P links i))

pub input-used : (i n input : ℕ) (links : List Link) → all_connected i n links ≡ true → input < n → uses_input i input links ≡ true
input-used i zero input links all within = absurd (omega arith)
input-used i (suc n) input links all within = search (rules, and_parts, cases_eq, (input-used i n))

-- an element with a pull output that leads to this one
pub record Feeds (nodes : List Node) (links : List Link) (i s : ℕ) : Type 0 where
  pub is : Role
  pub at : role_at nodes s ≡ Some is
  pub pulls : (is ≡ role.Queue) ⊎ (is_scheduler (Some is) ≡ true)
  pub to : next links s ≡ i

pull-output : (nodes : List Node) (links : List Link) (i s output : ℕ) (o : Option Role) → role_at nodes s ≡ o → has_output o output ≡ true → is_source o ≡ false → next links s ≡ i → Feeds nodes links i s
pull-output nodes links i s output o at has kind leads = search rules

pub fed : (nodes : List Node) (links : List Link) (i input : ℕ) (r : Role) → AreSound nodes links → role_at nodes i ≡ Some r → is_queue (Some r) ≡ false → input < inputs_of i r links
    → Feeds nodes links i (source_at links i input)
fed nodes links i input r sound at pull within =
    let h = link-to (λ (c : Link). IsRight nodes c × (next links c.from ≡ c.to)) links i input
    (all-both (IsRight nodes) (λ (c : Link). next links c.from ≡ c.to) (λ (c : Link). IsRight nodes c × (next links c.from ≡ c.to)) links (λ c a b. (a, b)) sound.right sound.onward)
    (input-used i (inputs_of i r links) input links (sound.connected i r at).inputs within) in
    subst (Feeds nodes links i) (sym h.source)
    (pull-output nodes links i h.link.from h.link.output (role_at nodes h.link.from) refl h.has.0.output (h.has.0.kind ∙ ap (λ t. is_queue (role_at nodes t)) h.to ∙ ap is_queue at ∙ pull) (h.has.1 ∙ h.to))

-- so many schedulers stand on the way from an element to a device
abbrev pub Way : List Node → List Link → ℕ → ℕ → Type 0
Way nodes links zero i = is_device (role_at nodes i) ≡ true
Way nodes links (suc k) i = (is_scheduler (role_at nodes i) ≡ true) × Way nodes links k (next links i)

way-counts : (nodes : List Node) (links : List Link) (k n i : ℕ) → Way nodes links k i → k ≤ n → k ≤ levels_from nodes links n i
way-counts nodes links zero n i way few = omega arith
way-counts nodes links (suc k) zero i way few = absurd (omega arith)
way-counts nodes links (suc k) (suc n) i way few = search (rules, (way-counts nodes links k n (next links i) way.1 (omega arith)))

way-on : (nodes : List Node) (links : List Link) (k n i : ℕ) → Way nodes links k i → n < k → is_scheduler (role_at nodes (follow links n i)) ≡ true
way-on nodes links zero n i way below = absurd (omega arith)
way-on nodes links (suc k) zero i way below = way.0
way-on nodes links (suc k) (suc n) i way below = way-on nodes links k n (next links i) way.1 (omega arith)

device-alone : (o : Option Role) → is_device o ≡ true → is_scheduler o ≡ true → ⊥
device-alone o d s = search (rules, false≢true)

-- the way of a scheduler is no longer than is allowed: a longer one comes back to where it was
pub way-short : (nodes : List Node) (links : List Link) (k i : ℕ) (r : Role) → AreSound nodes links → Way nodes links k i → role_at nodes i ≡ Some r → is_scheduler (Some r) ≡ true → k ≤ MAX_LEVELS
way-short nodes links k i r sound way at is = elim (cases_lt (length nodes) k) [
  | inl long ↦ absurd (device-alone (role_at nodes (follow links (length nodes) i)) (sound.ends i r at is) (way-on nodes links k (length nodes) i way long))
  | inr short ↦ (search (rules, (levels_from nodes links (length nodes) i), (way-counts nodes links k (length nodes) i way short), (sound.small i r at).levels))
]
