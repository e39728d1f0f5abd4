-- Threads are started for the last of what is left, and end one after another.
use Rattle.std.proofs.Common.{◌≡◌, ℕ, ◌+◌, ◌<◌, List, [], ◌∷◌, ◌++◌, length, get_or, subst, arith, Vec, rules}
use Rattle.std.specs.declared.alloc.Global.{Global}
use Rattle.std.specs.List.{AllByRecursion, AllZip}
use Rattle.std.proofs.lemmas.List.{length-append, get_or_default}
use Rattle.clk_ruled.specs.Queue.{SeatLists}
use Rattle.clk_drain.specs.declared.running.opening.LeafQueue.{LeafQueue}
use Rattle.clk_drain.specs.inside.Threads.{Terms, IsUnused, EndLists, Feed, IsPulled}
use Rattle.clk_drain.specs.inside.Handed.{FitPlaces, AreUnused, AreAllUnused, AreLeft, feed_from, pulled_of, IsUnpulledOver, IsPulledOver, HavePulled}
use Rattle.clk_sched.proofs.Callers.Lists.{all-split}

-- One pair more.
pairs-more : {X Y : Type 0} (Holds : X → Y → Type 0) (xs : List X) (x : X) (ys : List Y) (y : Y) → AllZip Holds xs ys → Holds x y → AllZip Holds (xs ++ x ∷ []) (ys ++ y ∷ [])
pairs-more Holds [] x xs y are is = search rules
pairs-more Holds (z ∷ xs) x [] y are is = absurd are
pairs-more Holds (z ∷ xs) x (w ∷ ys) y are is = (are.0, pairs-more Holds xs x ys y are.1 is)

pub pairs-of : {X Y : Type 0} (Holds : X → Y → Type 0) (all xs : List X) (x : X) (more ys : List Y) (y : Y) → all ≡ xs ++ x ∷ [] → more ≡ ys ++ y ∷ [] → AllZip Holds xs ys → Holds x y → AllZip Holds all more
pairs-of {X} {Y} Holds all xs x more ys y all_is more_is are is = search (rules, pairs-more)

-- One consumer more has pulled.
pub pulled-more : (terms : Terms) (ends : List EndLists) (e : EndLists) (pulled : List EndLists) (p : EndLists) (queues : List (Vec LeafQueue Global)) → HavePulled terms ends pulled queues → length ends < length queues
    → ((d : Vec LeafQueue Global) → IsPulledOver terms (get_or queues (length ends) d) e p) → HavePulled terms (ends ++ e ∷ []) (pulled ++ p ∷ []) queues
pulled-more terms [] e [] p [] are lt is = absurd (omega (arith, lt))
pulled-more terms [] e [] p (q ∷ queues) are lt is = (is q, tt)
pulled-more terms [] e (r ∷ pulled) p queues are lt is = absurd are
pulled-more terms (f ∷ ends) e [] p queues are lt is = absurd are
pulled-more terms (f ∷ ends) e (r ∷ pulled) p [] are lt is = absurd are
pulled-more terms (f ∷ ends) e (r ∷ pulled) p (q ∷ queues) are lt is = (are.0, pulled-more terms ends e pulled p queues are.1 (omega (arith, lt)) is)

-- The last of some that fit has a place.
pub record HasPlace {X Y : Type 0} (Fits : X → Y → Type 0) (ys : List Y) (y : Y) (xs : List X) : Type 0 where
  pub within : length ys < length xs
  pub here : (d : X) → Fits (get_or xs (length ys) d) y
  pub others : FitPlaces Fits ys xs

pub last-placed : {X Y : Type 0} (Fits : X → Y → Type 0) (ys : List Y) (y : Y) (xs : List X) → FitPlaces Fits (ys ++ y ∷ []) xs → HasPlace Fits ys y xs
last-placed Fits [] y ys h = search rules
last-placed Fits (z ∷ ys) y [] h = absurd h
last-placed Fits (z ∷ ys) y (x ∷ xs) h = search (rules, (last-placed Fits ys y xs h.1))

pub placed-of : {X Y : Type 0} (Fits : X → Y → Type 0) (all ys : List Y) (y : Y) (xs : List X) → all ≡ ys ++ y ∷ [] → FitPlaces Fits all xs → HasPlace Fits ys y xs
placed-of Fits all ys y xs is h = search (rules, last-placed)

-- The session of the last device is to be pulled over its queues.
pub unpulled-at : (all ends : List EndLists) (e : EndLists) (queues : List (Vec LeafQueue Global)) (place : ℕ) (q : Vec LeafQueue Global) → all ≡ ends ++ e ∷ [] → place ≡ length ends → q ≡ get_or queues place q → FitPlaces IsUnpulledOver all queues
    → IsUnpulledOver q e
unpulled-at all ends e queues place q is count read h = search (rules, (placed-of IsUnpulledOver all ends e queues is h))

-- One consumer more has pulled, over the queues that were lent to it.
pub pulled-at : (terms : Terms) (ends : List EndLists) (e : EndLists) (pulled : List EndLists) (p : EndLists) (queues : List (Vec LeafQueue Global)) (place : ℕ) (q : Vec LeafQueue Global) (lent : List LeafQueue) (consumer f : Feed)
    → place ≡ length ends → q ≡ get_or queues place q → place < length queues → lent ≡ q.items → consumer ≡ feed_from lent e → IsPulled terms consumer f → p ≡ pulled_of f → HavePulled terms ends pulled queues
    → HavePulled terms (ends ++ e ∷ []) (pulled ++ p ∷ []) queues
pulled-at terms ends e pulled p queues place q lent consumer f count read lt its fed over is h = search (rules, pulled-more, get_or_default)

-- how many steps it takes to start all producers that are left
abbrev queue_steps : List (Vec SeatLists Global) → ℕ
queue_steps [] = 0
queue_steps (q ∷ queues) = 1 + (length q.items + queue_steps queues)

abbrev device_steps : List (Vec (Vec SeatLists Global) Global) → ℕ
device_steps [] = 0
device_steps (d ∷ devices) = 1 + (queue_steps d.items + device_steps devices)

abbrev pub steps_left : Vec (Vec (Vec SeatLists Global) Global) Global → Vec (Vec SeatLists Global) Global → Vec SeatLists Global → ℕ
steps_left devices queues seats = length seats.items + (queue_steps queues.items + device_steps devices.items)

queue-steps-more : (queues : List (Vec SeatLists Global)) (q : Vec SeatLists Global) → queue_steps (queues ++ q ∷ []) ≡ queue_steps queues + (1 + length q.items)
queue-steps-more [] q = omega arith
queue-steps-more (r ∷ queues) q = let rest = queue-steps-more queues q in omega (arith, rest)

device-steps-more : (devices : List (Vec (Vec SeatLists Global) Global)) (d : Vec (Vec SeatLists Global) Global) → device_steps (devices ++ d ∷ []) ≡ device_steps devices + (1 + queue_steps d.items)
device-steps-more [] d = omega arith
device-steps-more (e ∷ devices) d = let rest = device-steps-more devices d in omega (arith, rest)

pub fewer-queues : (devices : Vec (Vec (Vec SeatLists Global) Global) Global) (queues more : Vec (Vec SeatLists Global) Global) (seats next : Vec SeatLists Global) → queues.items ≡ more.items ++ next ∷ [] → steps_left devices more next < steps_left devices queues seats
fewer-queues devices queues more seats next is = search (rules, queue-steps-more)

pub fewer-devices : (devices more : Vec (Vec (Vec SeatLists Global) Global) Global) (queues next : Vec (Vec SeatLists Global) Global) (seats rest : Vec SeatLists Global) → devices.items ≡ more.items ++ next ∷ [] → rest.items ≡ [] → steps_left more next rest < steps_left devices queues seats
fewer-devices devices more queues next seats rest is none = search (rules, device-steps-more)

-- The next seat, its queue and its device are there, and the other seats are left.
pub record HasNext (terms : Terms) (all : List (Vec LeafQueue Global)) (devices : Vec (Vec (Vec SeatLists Global) Global) Global) (queues : Vec (Vec SeatLists Global) Global) (more : Vec SeatLists Global) (s : SeatLists) : Type 0 where
  pub device : length devices.items < length all
  pub queue : (d : Vec LeafQueue Global) → length queues.items < length (get_or all (length devices.items) d).items
  pub unused : (d : Vec LeafQueue Global) (at : LeafQueue) → IsUnused terms (get_or (get_or all (length devices.items) d).items (length queues.items) at).queue s
  pub left : AreLeft terms all devices queues more

pub next-seat : (terms : Terms) (all : List (Vec LeafQueue Global)) (devices : Vec (Vec (Vec SeatLists Global) Global) Global) (queues : Vec (Vec SeatLists Global) Global) (seats more : Vec SeatLists Global) (s : SeatLists) → seats.items ≡ more.items ++ s ∷ []
    → AreLeft terms all devices queues seats → HasNext terms all devices queues more s
next-seat terms all devices queues seats more s is h =
    let some : 0 < length seats.items = search (rules, length-append) in
    let device = h.device (omega (arith, some)) in
    let split = λ (d : Vec LeafQueue Global) (at : LeafQueue). all-split (IsUnused terms (get_or (get_or all (length devices.items) d).items (length queues.items) at).queue) more.items (s ∷ []) (subst (AllByRecursion (IsUnused terms (get_or (get_or all (length devices.items) d).items (length queues.items) at).queue)) is (h.of_queue d at)) in record {
      device = device;
      queue = λ d. h.queue d some;
      unused = λ d at. (split d at).1.0;
      left = search rules;
    }

-- The seats of the next queue are left.
pub next-queue : (terms : Terms) (all : List (Vec LeafQueue Global)) (devices : Vec (Vec (Vec SeatLists Global) Global) Global) (queues more : Vec (Vec SeatLists Global) Global) (seats next : Vec SeatLists Global) → queues.items ≡ more.items ++ next ∷ []
    → AreLeft terms all devices queues seats → AreLeft terms all devices more next
next-queue terms all devices queues more seats next is h =
    let some : 0 < length queues.items = search (rules, length-append) in
    let device = h.device (omega (arith, some)) in
    let place = λ (d : Vec LeafQueue Global). placed-of (AreUnused terms) queues.items more.items next (get_or all (length devices.items) d).items is (h.of_queues d) in
    record { of_devices = h.of_devices; device = λ lt. device; of_queues = λ d. (place d).others; queue = λ d lt. (place d).within; of_queue = λ d at. (place d).here at }

-- The seats of the queues of the next device are left.
pub next-device : (terms : Terms) (all : List (Vec LeafQueue Global)) (devices more : Vec (Vec (Vec SeatLists Global) Global) Global) (queues next : Vec (Vec SeatLists Global) Global) (seats rest : Vec SeatLists Global) → devices.items ≡ more.items ++ next ∷ [] → rest.items ≡ []
    → AreLeft terms all devices queues seats → AreLeft terms all more next rest
next-device terms all devices more queues next seats rest is none h = search (rules, (placed-of (AreAllUnused terms) devices.items more.items next all is h.of_devices))
