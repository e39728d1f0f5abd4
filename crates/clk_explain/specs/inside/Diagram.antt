-- The places of the syntax diagram, as the code names them.
use Rattle.clk_syntax.specs.Diagram.{Place, start, first_name, comma, further_name, declares, class, opened, argument, argument_comma, closed, output_opened, output_number, output_closed, leads_to, input_opened, input_number, input_closed, next_name}
use Rattle.clk_explain.specs.declared.diagram.Gap.{Gap}
use Rattle.clk_explain.specs.declared.diagram.Gap.TheVariants as spot

abbrev pub in_diagram : Gap → Place
in_diagram spot.Start = start
in_diagram spot.FirstName = first_name
in_diagram spot.Comma = comma
in_diagram spot.FurtherName = further_name
in_diagram spot.Declares = declares
in_diagram spot.Class = class
in_diagram spot.Opened = opened
in_diagram spot.Argument = argument
in_diagram spot.ArgumentComma = argument_comma
in_diagram spot.Closed = closed
in_diagram spot.OutputOpened = output_opened
in_diagram spot.OutputNumber = output_number
in_diagram spot.OutputClosed = output_closed
in_diagram spot.LeadsTo = leads_to
in_diagram spot.InputOpened = input_opened
in_diagram spot.InputNumber = input_number
in_diagram spot.InputClosed = input_closed
in_diagram spot.NextName = next_name
