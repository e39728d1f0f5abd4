-- How the logic stores setups, events and courses.
use Rattle.std.specs.Prelude.{◌≡◌, ℕ, List, ◌⊎◌}
use Rattle.std.proofs.Common.{inl, inr, refl}
use Rattle.std.specs.Coded.{Coded, code_by, coded×, coded⊎, coded_ℕ, coded_list}
use Rattle.clk_packet.specs.declared.packet.Packet.{Packet}
use Rattle.clk_packet.specs.declared.packet.Offered.{Offered}
use Rattle.clk_packet.specs.declared.packet.Kind.{Kind}
use Rattle.clk_packet.specs.contracts.packet.Packet.{the_row as packet_row}
use Rattle.clk_packet.specs.contracts.packet.Offered.{the_row as offered_row}
use Rattle.clk_packet.specs.contracts.packet.Kind.{the_row as kind_row}
use Rattle.clk_sched.specs.declared.visit.Visit.{Visit}
use Rattle.clk_sched.specs.contracts.visit.Visit.{the_row as visit_row}
use Rattle.clk_sched.specs.declared.session.keeps.Keeps.{Keeps}
use Rattle.clk_sched.specs.contracts.session.keeps.Keeps.{the_row as keeps_row}
use Rattle.clk_sched.specs.Stored.{tree_code}
use Rattle.clk_sched.specs.Tree.{Tree}
use Rattle.clk_tree.specs.declared.plan.parts.SenderSpec.{SenderSpec}
use Rattle.clk_tree.specs.contracts.plan.parts.SenderSpec.{the_row as sender_row}
use Rattle.clk_router.specs.Course.{Course}
use Rattle.clk_router.specs.Events.{Room, Setup, Event, offered, pulled}

-- how a queue of a setup is stored
abbrev room_code : Coded Room
room_code = code_by (Kind × (ℕ × ℕ)) (coded× kind_row.coded (coded× coded_ℕ coded_ℕ)) (λ r. (r.kind, (r.capacity, r.device))) (λ t. record { kind = t.0; capacity = t.1.0; device = t.1.1 }) (λ r. refl)

-- how a setup is stored
abbrev pub setup_code : Coded Setup
setup_code =
    code_by (List Tree × (List Room × (List SenderSpec × List (List ℕ)))) (coded× (coded_list tree_code) (coded× (coded_list room_code) (coded× (coded_list sender_row.coded) (coded_list (coded_list coded_ℕ)))))
    (λ s. (s.trees, (s.queues, (s.senders, s.names)))) (λ t. record { trees = t.0; queues = t.1.0; senders = t.1.1.0; names = t.1.1.1 }) (λ s. refl)

-- an event as a sum of products: an offer, or a pull
abbrev Parts : Type 0
Parts = (Packet × Offered) ⊎ (ℕ × (ℕ × List Visit))

-- the parts of an event
abbrev parts_of : Event → Parts
parts_of (offered p outcome) = inl (p, outcome)
parts_of (pulled device moment visits) = inr (device, (moment, visits))

-- the event of these parts
abbrev event_of : Parts → Event
event_of (inl o) = offered o.0 o.1
event_of (inr p) = pulled p.0 p.1.0 p.1.1

-- the parts of an event lead back to it
pub event_of-parts : (e : Event) → event_of (parts_of e) ≡ e
event_of-parts (offered p outcome) = refl
event_of-parts (pulled device moment visits) = refl

-- how an event is stored
abbrev pub event_code : Coded Event
event_code = code_by Parts (coded⊎ (coded× packet_row.coded offered_row.coded) (coded× coded_ℕ (coded× coded_ℕ (coded_list visit_row.coded)))) parts_of event_of event_of-parts

-- how a course is stored
abbrev pub course_code : Coded Course
course_code =
    code_by (Setup × (List Event × Keeps)) (coded× setup_code (coded× (coded_list event_code) keeps_row.coded)) (λ c. (c.setup, (c.events, c.keeps)))
    (λ t. record { setup = t.0; events = t.1.0; keeps = t.1.1 }) (λ c. refl)
