use Rattle.std.proofs.Common.{◌≡◌, ◌≤◌, [], ◌∷◌, ◌++◌, length, ap, ◌∙◌, subst, rules}
use Rattle.std.proofs.Math.Nat.{le_trans}
use Rattle.crossbeam_queue.specs.Passes.{view}
use Rattle.clk_ruled.specs.declared.view.View.{View}
use Rattle.clk_ruled.specs.Queue.{SeatLists}
use Rattle.clk_ruled.specs.inside.Rule.{seat_view}
use Rattle.clk_ruled.proofs.SeatSteps.{offers-after, may-offer, may-evict, places-within, fits-accepted, fits-refused, fits-evicted, refused-alone}
use Rattle.clk_ruled.proofs.Offering.{offering, room-lengths, room-refused, room-evicted}
use Rattle.clk_ruled.proofs.Steps.{accepts, evicts, learns}
use Rattle.clk_ruled.proofs.seat.Seat.offer.Goals as goal

pub push_as-requires-clause-rule : goal.push_as-requires-clause-rule
push_as-requires-clause-rule g c =
    let o = offering _ _ _ _ c.args.packet c.queue.view_is c.self.view_is c.requires.together c.requires.own c.requires.number c.requires.room in search (rules, accepts, may-offer, places-within, learns)

pub add-requires : goal.add-requires
add-requires g c =
    let o = offering _ _ _ _ c.args.packet c.queue.view_is c.self.view_is c.requires.together c.requires.own c.requires.number c.requires.room in search (rules, room-lengths)

pub note-requires : goal.note-requires
note-requires g c =
    let o = offering _ _ _ _ c.args.packet c.queue.view_is c.self.view_is c.requires.together c.requires.own c.requires.number c.requires.room in search (rules, room-refused)

pub add-requires-in-None : goal.add-requires-in-None
add-requires-in-None g c =
    let o = offering _ _ _ _ c.args.packet c.queue.view_is c.self.view_is c.requires.together c.requires.own c.requires.number c.requires.room in search (rules, room-lengths)

pub add-requires-in-Some : goal.add-requires-in-Some
add-requires-in-Some g c =
    let o = offering _ _ _ _ c.args.packet c.queue.view_is c.self.view_is c.requires.together c.requires.own c.requires.number c.requires.room in search (rules, room-lengths)

pub note-requires-in-Some : goal.note-requires-in-Some
note-requires-in-Some g c =
    let o = offering _ _ _ _ c.args.packet c.queue.view_is c.self.view_is c.requires.together c.requires.own c.requires.number c.requires.room in search (rules, room-evicted)

pub invariant_of-self : goal.invariant_of-self
invariant_of-self g c =
    let o = offering _ _ _ _ c.args.packet c.queue.view_is c.self.view_is c.requires.together c.requires.own c.requires.number c.requires.room in (
      fits-accepted _ _ _ _ _ _ _ _ _ _ c.self.invariant.0 o.own o.number o.room c.in-Ok.ensures.rule c.add.ensures.items,
      c.push_as.ensures.queue.2 ∙ c.self.invariant.1,
      le_trans c.self.invariant.2 c.add.ensures.capacity,
      c.self.invariant.3,
      c.self.invariant.4,
    )

pub invariant_of-self-in-Err : goal.invariant_of-self-in-Err
invariant_of-self-in-Err g c = search (rules, fits-refused)

pub force_push_as-requires-clause-push : goal.force_push_as-requires-clause-push
force_push_as-requires-clause-push g c =
    let o = offering _ _ _ _ c.args.packet c.queue.view_is c.self.view_is c.requires.together c.requires.own c.requires.number c.requires.room in
    let may = may-offer _ _ _ _ _ _ _ _ c.self.invariant.0 o.own o.number o.room in let within = places-within (view c.self.inside.pass).setup _ o.places c.self.invariant.0.some in (
      accepts _ _ _ _ may within,
      λ front w out. accepts _ _ w _ (offers-after (view c.self.inside.pass) w _ front may out.0) (search rules),
    )

pub force_push_as-requires-clause-pop : goal.force_push_as-requires-clause-pop
force_push_as-requires-clause-pop g c =
    let o = offering _ _ _ _ c.args.packet c.queue.view_is c.self.view_is c.requires.together c.requires.own c.requires.number c.requires.room in evicts _ _ _ (may-evict _ _ _ _ _ _ _ c.self.invariant.0 (o.kind ∙ c.in-FrontDrop.is) o.room)

pub invariant_of-self-in-None : goal.invariant_of-self-in-None
invariant_of-self-in-None g c =
    let o = offering _ _ _ _ c.args.packet c.queue.view_is c.self.view_is c.requires.together c.requires.own c.requires.number c.requires.room in (
      fits-accepted _ _ _ _ _ _ _ _ _ _ c.self.invariant.0 o.own o.number o.room c.in-None.ensures.rule c.add-in-None.ensures.items,
      c.force_push_as.ensures.queue.2 ∙ c.self.invariant.1,
      le_trans c.self.invariant.2 c.add-in-None.ensures.capacity,
      c.self.invariant.3,
      c.self.invariant.4,
    )

pub invariant_of-self-in-Some : goal.invariant_of-self-in-Some
invariant_of-self-in-Some g c =
    let o = offering _ _ _ _ c.args.packet c.queue.view_is c.self.view_is c.requires.together c.requires.own c.requires.number c.requires.room in let rule = c.in-Some.ensures.rule in (
      fits-evicted _ _ _ _ _ _ _ _ _ _ _ _ c.self.invariant.0 o.own o.number o.room (o.kind ∙ c.in-FrontDrop.is)
          (rule.2 ∙ ap (λ (u : View). seat_view u.setup u.sender (u.accepted ++ c.args.packet ∷ []) u.evicted) rule.1.0)
          c.add-in-Some.ensures.items
          c.note-in-Some.ensures.items,
      c.force_push_as.ensures.queue.2 ∙ c.self.invariant.1,
      le_trans c.self.invariant.2 c.add-in-Some.ensures.capacity,
      c.self.invariant.3,
      search rules,
    )

pub returns-in-Err-clause-lone : goal.returns-in-Err-clause-lone
returns-in-Err-clause-lone g c alone answer =
    let o = offering _ _ _ _ c.args.packet c.queue.view_is c.self.view_is c.requires.together c.requires.own c.requires.number c.requires.room in
    subst (λ (x : SeatLists). x.setup.rooms ≡ (x.sender, x.room) ∷ [] → x.setup.capacity ≤ length c.self.inside.accepted.all.items) c.self.view_is
    (λ one. refused-alone _ _ _ _ _ _ _ _ c.self.invariant.0 o.room o.places one c.in-Err.ensures.rule.2) alone
