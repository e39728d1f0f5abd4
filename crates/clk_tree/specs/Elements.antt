-- The elements of a plan, as the code keeps them.
use Rattle.clk_syntax.specs.Classes.{class_view}
use Rattle.clk_tree.specs.declared.plan.element.Element.{Element}
use Rattle.clk_tree.specs.Plan.{Planned}

-- an element as definitions see it
abbrev pub planned : Element → Planned
planned e = record { name = e.name.items; class = class_view e.class; sources = e.sources.items }
