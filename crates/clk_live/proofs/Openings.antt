-- The parts of a live router, as they are opened.
use Rattle.std.proofs.Common.{◌≡◌, ℕ, zero, suc, ◌+◌, ◌<◌, ◌≤◌, ◌^◌, List, [], ◌∷◌, ◌++◌, length, map, Some, slice_get, refl, sym, ap, ◌∙◌, subst, arith}
use Rattle.std.specs.List.{AllByRecursion, AllZip}
use Rattle.std.proofs.lemmas.List.{length-map}
use Rattle.circular_buffer.specs.Buffer.{Buffer}
use Rattle.clk_packet.specs.Lists.{AreRising}
use Rattle.clk_sched.specs.Keeps.{keeps_nothing}
use Rattle.clk_sched.specs.Tree.{Tree, root}
use Rattle.clk_sched.specs.FewHeads.{drrs_above}
use Rattle.clk_tree.specs.Plan.{Planned}
use Rattle.clk_tree.specs.PlanParts.{Queued, SendsWithin, queues_of, senders_of}
use Rattle.clk_tree.specs.PlanTree.{device_count}
use Rattle.clk_tree.specs.Shares.{AreTreesOf, AreSharedOut}
use Rattle.clk_tree.specs.Drrs.{AreDrrsAbove}
use Rattle.clk_inlet.specs.Halves.{popped, taken}
use Rattle.clk_inlet.specs.Items.{packets}
use Rattle.clk_inlet.specs.declared.item.Item.{Item}
use Rattle.clk_inlet.specs.declared.outlet.Outlet.{Outlet}
use Rattle.clk_router.specs.Course.{Course, IsOpened}
use Rattle.clk_router.specs.Events.{Room}
use Rattle.clk_router.proofs.Callers.Plans.{room_of, setup_by_paths, setup-by-paths}
use Rattle.clk_live.specs.State.{IsTokenOf}
use Rattle.clk_live.specs.Outcome.{item_length}
use Rattle.clk_live.specs.inside.Kept.{drrs_in, IsKept}
use Rattle.clk_live.specs.inside.Opened.{AreRoomy}

-- numbers that rise are no less than their places
low-from : (ns : List ℕ) (least i n : ℕ) → AllByRecursion (λ m. least ≤ m) ns → AreRising ns → slice_get ns i ≡ Some n → least + i ≤ n
low-from [] least i n all rising e = absurd (cc)
low-from (m ∷ ns) least zero n all rising e = let same : m ≡ n = cc in let first = all.0 in omega (arith, same, first)
low-from (m ∷ ns) least (suc i) n all rising e =
    let above = low-from ns (suc m) i n (later ns m rising.0) rising.1 e in
    let first = all.0 in
    omega (arith, above, first)
  where
    later : (ks : List ℕ) (m : ℕ) → AllByRecursion (λ k. m < k) ks → AllByRecursion (λ k. suc m ≤ k) ks
    later [] m h = tt
    later (k ∷ ks) m h = ((let first = h.0 in omega (arith, first)), later ks m h.1)

pub place-low : (ns : List ℕ) (i n : ℕ) → AreRising ns → slice_get ns i ≡ Some n → i ≤ n
place-low ns i n rising e = let low = low-from ns 0 i n (all ns) rising e in omega (arith, low)
  where
    all : (ks : List ℕ) → AllByRecursion (λ k. 0 ≤ k) ks
    all [] = tt
    all (k ∷ ks) = (omega arith, all ks)

pub all-pushed : {X : Type 0} (P : X → Type 0) (xs : List X) (x : X) → AllByRecursion P xs → P x → AllByRecursion P (xs ++ x ∷ [])
all-pushed P [] x h p = (p, tt)
all-pushed P (y ∷ xs) x h p = (h.0, all-pushed P xs x h.1 p)

-- the queue whose room stands at a place
queue-at : (queues : List Queued) (q : ℕ) (room : Room) → slice_get (map room_of queues) q ≡ Some room → (queue : Queued) × (slice_get queues q ≡ Some queue) × (room_of queue ≡ room)
queue-at [] q room e = absurd (cc)
queue-at (x ∷ queues) zero room e = (x, refl, cc)
queue-at (x ∷ queues) (suc q) room e = queue-at queues q room e

member-of : (os : List Outlet) (i : ℕ) (its : List Item) → AllByRecursion (λ (u : Outlet). popped u ≡ []) os → slice_get (map taken os) i ≡ Some its → its ≡ []
member-of [] i its h e = absurd (cc)
member-of (u ∷ os) zero its h e = let same : taken u ≡ its = cc in sym same ∙ ap packets h.0
member-of (u ∷ os) (suc i) its h e = member-of os i its h.1 e

-- So a live router is opened.
pub kept-opened : (plan : List Planned) (c : Course) (outlets : List Outlet) (buffers : List (Buffer ℕ)) (counts : List ℕ) → IsOpened plan keeps_nothing c → length outlets ≡ length c.setup.senders → length outlets ≤ 2 ^ 16
    → AllByRecursion (SendsWithin (length (queues_of plan))) (senders_of plan) → AllByRecursion (λ (o : Outlet). popped o ≡ []) outlets → ((trees : List Tree) → AreTreesOf plan trees → AreDrrsAbove (queues_of plan) trees counts)
    → AreRoomy (queues_of plan) counts (length (queues_of plan)) buffers → ((trees : List Tree) → AreTreesOf plan trees → AreSharedOut (queues_of plan) trees) → AllByRecursion (λ (q : Queued). q.device < device_count plan) (queues_of plan)
    → ((q : ℕ) (room : Room) → slice_get c.setup.queues q ≡ Some room → (tree : Tree) × (slice_get c.setup.trees room.device ≡ Some tree)) → IsKept c (map taken outlets) buffers
kept-opened plan c outlets buffers counts opened places few wired taken_none above roomy shared paths trees =
    subst (λ (k : Course). IsKept k (map taken outlets) buffers) (sym is)
    (record {
      places = length-map outlets taken ∙ places ∙ ap (λ (k : Course). length k.setup.senders) is;
      few_places = (let many = length-map outlets taken in omega (arith, many, few));
      wired = subst (λ n. AllByRecursion (SendsWithin n) (senders_of plan)) (sym (length-map (queues_of plan) room_of)) wired;
      offers = λ place its s here at. (let none = member-of outlets place its taken_none here in record { lengths = ap (map item_length) none; few = (let many = ap length none in omega (arith, many)) });
      queues = roomy.many ∙ sym (length-map (queues_of plan) room_of);
      tokens = λ q room b at here.
          (let queue = queue-at (queues_of plan) q room at in
          let drrs = above opened.trees opened.are in
          let tree = trees q room (ap (λ (k : Course). slice_get k.setup.queues q) is ∙ at) in
          let stands : slice_get opened.trees room.device ≡ Some tree.0 = sym (ap (λ (k : Course). slice_get k.setup.trees room.device) is) ∙ tree.1 in
          let count = drrs.each q queue.0 tree.0 queue.1 (ap (λ (r : Room). slice_get opened.trees r.device) queue.2 ∙ stands) in
          let b_is = roomy.each q queue.0 (drrs_above q (root tree.0)) b queue.1 count here in
          record {
            tokens = subst (λ ts. AllZip (IsTokenOf (setup_by_paths opened.trees plan) (map taken outlets)) [] ts) (sym b_is.0) tt;
            capacity = b_is.1 ∙ ap (λ (r : Room). r.capacity + drrs_above q (root tree.0)) queue.2 ∙ ap (λ o. room.capacity + drrs_in o q) (sym stands);
          });
    })
  where
    is : c ≡ record { setup = setup_by_paths opened.trees plan; events = []; keeps = keeps_nothing }
    is = opened.is ∙ ap (λ setup. record { setup = setup; events = []; keeps = keeps_nothing }) (setup-by-paths plan opened.trees opened.are (shared opened.trees opened.are) paths)
