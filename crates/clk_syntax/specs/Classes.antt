-- The classes of elements and their arguments (Click's element reference; defaults and limits as this project chose them).
use Rattle.std.specs.Prelude.{ℕ, List, [], ◌∷◌, if◌then◌else◌, Option, Some, None, codes}
use Rattle.std.specs.Option.{option_map, option_and_then}
use Rattle.std.specs.Str.{bytes_eq}
use Rattle.clk_packet.specs.declared.limits.TheConstants.{MAX_SENDER, MAX_CAPACITY}
use Rattle.clk_packet.specs.Numbers.{number_in}
use Rattle.clk_packet.specs.Scheduler.{Scheduler, scheduler_view, scheduler_named, scheduler_with, most_argument, arguments_of, inputs_of}
use Rattle.clk_packet.specs.declared.packet.Kind.{Kind}
use Rattle.clk_packet.specs.declared.packet.Kind.TheVariants.{TailDrop, FrontDrop}
use Rattle.clk_syntax.specs.declared.limits.TheConstants.{DEFAULT_CAPACITY}
use Rattle.clk_syntax.specs.declared.naming.class.ClassName.{ClassName}
use Rattle.clk_syntax.specs.declared.naming.class.ClassName.TheVariants as named
use Rattle.clk_syntax.specs.declared.naming.class.Class as declared
use Rattle.clk_syntax.specs.declared.naming.class.Class.TheVariants as kept
use Rattle.clk_syntax.specs.declared.naming.class.Role.{Role}
use Rattle.clk_syntax.specs.declared.naming.class.Role.TheVariants as role

-- A class with its arguments, defaults filled in: the number of a Sender, the kind and the capacity of a queue, a scheduler, and the word
-- of a ToDevice. A DRRSched has one quantum for all inputs or one for each.
pub data Class : Type 0 where
  sender : ℕ → Class
  queue : Kind → ℕ → Class
  scheduler : Scheduler → Class
  device : List ℕ → Class

-- the class of this name, if there is one
abbrev pub class_named : List ℕ → Option ClassName
class_named word =
    if bytes_eq word (codes "Sender") then Some named.Sender
    else if bytes_eq word (codes "Queue") then Some named.Queue
    else if bytes_eq word (codes "FrontDropQueue") then Some named.FrontDropQueue
    else if bytes_eq word (codes "ToDevice") then Some named.ToDevice
    else option_map named.Scheduler (scheduler_named word)

-- a number before others, if all are there
abbrev pub and_then : Option ℕ → Option (List ℕ) → Option (List ℕ)
and_then None numbers = None
and_then (Some n) numbers = option_map (λ ns. n ∷ ns) numbers

-- the numbers that these words are, if each is a number from 1 to `most`
abbrev pub numbers_to : ℕ → List (List ℕ) → Option (List ℕ)
numbers_to most [] = Some []
numbers_to most (word ∷ more) = and_then (number_in 1 most word) (numbers_to most more)

-- a class with these arguments, if it takes them
abbrev pub class_with : ClassName → List (List ℕ) → Option Class
class_with named.Sender (n ∷ []) = option_map sender (number_in 0 MAX_SENDER n)
class_with named.Queue [] = Some (queue TailDrop DEFAULT_CAPACITY)
class_with named.Queue (n ∷ []) = option_map (queue TailDrop) (number_in 1 MAX_CAPACITY n)
class_with named.FrontDropQueue [] = Some (queue FrontDrop DEFAULT_CAPACITY)
class_with named.FrontDropQueue (n ∷ []) = option_map (queue FrontDrop) (number_in 1 MAX_CAPACITY n)
class_with (named.Scheduler name) words = option_map scheduler (option_and_then (scheduler_with name) (numbers_to (most_argument name) words))
class_with named.ToDevice (word ∷ []) = Some (device word)
class_with name arguments = None

-- the ports of a scheduler with so many inputs, or with as many as are connected
abbrev pub role_over : Option ℕ → Role
role_over None = role.Scheduler
role_over (Some inputs) = role.SchedulerOf inputs

-- what ports an element of a class has
abbrev pub role_of : Class → Role
role_of (sender n) = role.Source
role_of (queue kind capacity) = role.Queue
role_of (scheduler s) = role_over (inputs_of s)
role_of (device word) = role.Device

-- a class as the code keeps it
abbrev pub class_view : declared.Class → Class
class_view (kept.Sender n) = sender n
class_view (kept.Queue kind capacity) = queue kind capacity
class_view (kept.Scheduler s) = scheduler (scheduler_view s)
class_view (kept.ToDevice word) = device word.items

-- a class as definitions see it
abbrev pub is_class : declared.Class → Option Class
is_class class = Some (class_view class)

-- the arguments of a class, if it is a scheduler
abbrev pub numbers_in : Class → List ℕ
numbers_in (scheduler s) = arguments_of s
numbers_in class = []

-- the class of queues of this kind
abbrev pub queue_name : Kind → ClassName
queue_name TailDrop = named.Queue
queue_name FrontDrop = named.FrontDropQueue
