-- What is known of a plan that some text denotes.
use Rattle.std.proofs.lemmas.Grind.{common_steps}
use Rattle.std.proofs.Common.{◌≡◌, ℕ, ◌+◌, ◌≤◌, ◌<◌, List, [], ◌∷◌, length, map, get_or, slice_get, Some, None, true, Result, Ok, Err, IfOk, sym, ap, ap₂, subst, ◌∙◌, arith, rules}
use Rattle.std.specs.List.{AllByRecursion}
use Rattle.std.proofs.lemmas.List.{length-map, get_or-map}
use Rattle.std.proofs.lemmas.Option.{slice_get_within}
use Rattle.clk_packet.specs.declared.fault.Fault.{Fault}
use Rattle.clk_packet.specs.declared.limits.TheConstants.{MAX_LEVELS, MAX_ELEMENTS}
use Rattle.clk_sched.specs.Session as session
use Rattle.clk_packet.specs.Lists.{stands_in}
use Rattle.clk_sched.specs.Tree.{Tree, root, leaves, leaves_distinct}
use Rattle.clk_syntax.specs.declared.node.Node.{Node}
use Rattle.clk_syntax.specs.declared.node.Link.{Link}
use Rattle.clk_syntax.specs.declared.texts.statements.Connection.{Connection}
use Rattle.clk_syntax.specs.declared.texts.statements.Declaration.{Declaration}
use Rattle.clk_syntax.specs.Tokens.{tokens_of}
use Rattle.clk_syntax.specs.Source.{kept, elements}
use Rattle.clk_syntax.specs.Faults.{nodes_fault}
use Rattle.clk_syntax.specs.Reading.{IsNamedText, elements_of, wires_of}
use Rattle.clk_tree.specs.declared.plan.element.Element as plan
use Rattle.clk_tree.specs.Elements.{planned}
use Rattle.clk_tree.specs.declared.plan.parts.SenderSpec.{SenderSpec}
use Rattle.clk_tree.specs.Plan.{Planned, all_known, planned_from, Denotes}
use Rattle.clk_tree.specs.PlanTree.{IsRowOf, IsTreeOf, device_sources, device_count}
use Rattle.clk_tree.specs.inside.PlanTree.{IsScheduled}
use Rattle.clk_tree.specs.PlanParts.{Queued, queues_of, leads_to, IsKept}
use Rattle.clk_tree.specs.Shares.{AreTreesOf, AreSharedOut}
use Rattle.clk_tree.proofs.Sound.SoundPlans.{IsRoot, plan-scheduled, plan-device}
use Rattle.clk_tree.proofs.Distinct.DistinctPlans.{nodes-known, plan-few, devices-few, denoted-small, denoted-distinct, denoted-session}
use Rattle.clk_tree.proofs.Denoted.LeafLemmas.{denoted-leaves, queue-device-below}
use Rattle.clk_tree.proofs.Denoted.FedPlans.{denoted-fed}
use Rattle.clk_tree.proofs.Denoted.SharedOut.{shared-out}
use Rattle.clk_tree.proofs.Denoted.DenotesLemmas.{denotes-by}

-- one element is connected to each device, a scheduler or a queue
denoted-scheduled : (text : List ℕ) (plan : List Planned) → Denotes text plan → AllByRecursion (IsRoot plan) (device_sources plan)
denoted-scheduled text plan d = search (rules, plan-scheduled)

pub denoted-one : (text : List ℕ) (plan : List Planned) → Denotes text plan → AllByRecursion (λ sources. length sources ≡ 1) (device_sources plan)
denoted-one text plan d = each (device_sources plan) (denoted-scheduled text plan d)
  where
    each : (xs : List (List ℕ)) → AllByRecursion (IsRoot plan) xs → AllByRecursion (λ sources. length sources ≡ 1) xs
    each [] all = tt
    each (sources ∷ xs) all = (ap length all.0.source, each xs all.1)

-- What is known of the devices of a plan: there is one, and no more than a tree text may have elements.
pub record HasDevices (plan : List Planned) (tops : List ℕ) : Type 0 where
  pub count : length tops ≡ device_count plan
  pub some : 1 ≤ length tops
  pub within : length tops ≤ MAX_ELEMENTS

pub kept-devices : (plan : List Planned) (tops : List ℕ) (queues : List Queued) (senders : List SenderSpec) → IsKept plan tops queues senders → HasDevices plan tops
kept-devices plan tops queues senders h =
    let text = h.denoted.0 in
    let d = h.denoted.1 in
    let count : length tops ≡ device_count plan = sym (length-map tops (λ (top : ℕ). top ∷ [])) ∙ ap length (sym h.sources) in
    let some : 1 ≤ device_count plan = subst (λ p. 1 ≤ device_count p) (sym d.is) (plan-device (elements_of text d.faultless.statements) (wires_of text d.faultless.statements) d.faultless.sound) in
    let few = devices-few plan in
    let small = denoted-small text plan d in
    record { count = count; some = omega (arith, count, some); within = omega (arith, count, few, small) }

pub kept-below : (plan value : List Planned) (tops : List ℕ) (queues : List Queued) (senders : List SenderSpec) (d : ℕ) → IsKept plan tops queues senders → plan ≡ value → d < device_count value
    → d < length tops
kept-below plan value tops queues senders d h same below = search (rules, kept-devices)

all-at : (P : ℕ → Type 0) (xs : List ℕ) (i x : ℕ) → AllByRecursion P xs → i < length xs → x ≡ get_or xs i x → P x
all-at P xs i x all below is = search (rules, common_steps)

pub kept-scheduled : (plan : List Planned) (tops : List ℕ) (queues : List Queued) (senders : List SenderSpec) (d top : ℕ) → IsKept plan tops queues senders → d < length tops
    → top ≡ get_or tops d top → IsScheduled plan MAX_LEVELS top
kept-scheduled plan tops queues senders d top h below is =
    all-at (IsScheduled plan MAX_LEVELS) tops d top (each tops (subst (AllByRecursion (IsRoot plan)) h.sources (denoted-scheduled h.denoted.0 plan h.denoted.1))) below is
  where
    each : (tops : List ℕ) → AllByRecursion (IsRoot plan) (map (λ top. top ∷ []) tops) → AllByRecursion (IsScheduled plan MAX_LEVELS) tops
    each [] all = tt
    each (t ∷ more) all = (let same : all.0.top ∷ [] ≡ t ∷ [] = sym all.0.source in subst (IsScheduled plan MAX_LEVELS) (cc) all.0.is, each more all.1)

-- what is connected to a device
kept-sources : (plan : List Planned) (tops : List ℕ) (queues : List Queued) (senders : List SenderSpec) (d top : ℕ) → IsKept plan tops queues senders → d < length tops
    → top ≡ get_or tops d top → get_or (device_sources plan) d [] ≡ top ∷ []
kept-sources plan tops queues senders d top h below is = search (rules, get_or-map)

-- What is made at that element is the tree of the device: no queue stands twice in it, and a session takes it.
pub record IsMadeTree (plan : List Planned) (d : ℕ) (made : Result Tree Fault) : Type 0 where
  pub tree : IfOk made (IsTreeOf plan d)
  pub distinct : IfOk made (λ tree. leaves_distinct tree ≡ true)
  pub fits : IfOk made (λ tree. 1 + session.elements (root tree) ≤ MAX_ELEMENTS)
  pub leaves : IfOk made (λ tree. (q : ℕ) → stands_in q (leaves (root tree)) ≡ leads_to d (slice_get (queues_of plan) q))

pub kept-made : (plan : List Planned) (tops : List ℕ) (queues : List Queued) (senders : List SenderSpec) (d top : ℕ) (made : Result Tree Fault) → IsKept plan tops queues senders → d < length tops
    → top ≡ get_or tops d top → IfOk made (λ tree. IsRowOf plan (top ∷ []) (root tree)) → IsMadeTree plan d made
kept-made plan tops queues senders d top (Err fault) h below at is = record { tree = _; distinct = _; fits = _; leaves = _ }
kept-made plan tops queues senders d top (Ok tree) h below at is =
    let its : IsTreeOf plan d tree = subst (λ sources. IsRowOf plan sources (root tree)) (sym (kept-sources plan tops queues senders d top h below at)) is in
    let known : d < device_count plan = subst (λ n. d < n) (kept-devices plan tops queues senders h).count below in
    record {
      tree = its;
      distinct = denoted-distinct h.denoted.0 plan d h.denoted.1 known tree its;
      fits = denoted-session h.denoted.0 plan d h.denoted.1 known tree its;
      leaves = denoted-leaves h.denoted.0 plan d h.denoted.1 known tree its;
    }

-- The leaves of the trees of a plan are its queues.
pub kept-shared : (plan : List Planned) (tops : List ℕ) (queues : List Queued) (senders : List SenderSpec) → IsKept plan tops queues senders → (trees : List Tree) → AreTreesOf plan trees → AreSharedOut (queues_of plan) trees
kept-shared plan tops queues senders h trees are = shared-out (queues_of plan) trees (record {
  distinct = λ d tree at. denoted-distinct h.denoted.0 plan d h.denoted.1 (below d tree at) tree (are.each d tree at);
  leads = λ d tree at. denoted-leaves h.denoted.0 plan d h.denoted.1 (below d tree at) tree (are.each d tree at);
  there = λ q queue at. subst (λ n. queue.device < n) (sym are.count) (queue-device-below plan (denoted-fed h.denoted.0 plan h.denoted.1) q queue at);
})
  where
    below : (d : ℕ) (tree : Tree) → slice_get trees d ≡ Some tree → d < device_count plan
    below d tree at = subst (λ n. d < n) are.count (slice_get_within trees d tree at)

-- What is made of a text whose names are right and whose checks find nothing is the plan that it denotes.
pub read-denotes : (text : List ℕ) (declared given : List Declaration) (connections : List Connection) (nodes checked : List Node) (links joined : List Link) (plan : List Planned)
    → IsNamedText text (tokens_of text) (map kept declared) connections nodes links → checked ≡ nodes → joined ≡ links → given ≡ declared → nodes_fault checked joined ≡ None
    → plan ≡ planned_from (length checked) joined 0 (all_known (elements text (map kept given))) → Denotes text plan
read-denotes text declared given connections nodes checked links joined plan named same_nodes same_links same none is =
    denotes-by text (tokens_of text) (map kept declared) connections nodes links plan named (ap₂ nodes_fault (sym same_nodes) (sym same_links) ∙ none)
    (is ∙ ap₂ (λ ns ds. planned_from (length ns) joined 0 (all_known (elements text (map kept ds)))) same_nodes same
    ∙ ap (λ ls. planned_from (length nodes) ls 0 (all_known (elements text (map kept declared)))) same_links)

-- There are as many nodes as elements whose class is known.
pub read-all : (text : List ℕ) (declared given : List Declaration) (connections : List Connection) (nodes checked : List Node) (links : List Link)
    → IsNamedText text (tokens_of text) (map kept declared) connections nodes links → checked ≡ nodes → given ≡ declared
    → length checked ≡ length (all_known (elements text (map kept given)))
read-all text declared given connections nodes checked links named same_nodes same = search (rules, nodes-known)

-- A plan has as many elements as a session may have at most.
pub denoted-few : (text : List ℕ) (es : List plan.Element) → Denotes text (map planned es) → length es ≤ MAX_ELEMENTS
denoted-few text es d = search (rules, length-map, plan-few)
