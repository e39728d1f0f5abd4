-- `none` makes a value of no bytes, which has no packets.
use Rattle.std.proofs.Common.{[], ◌∷◌, refl}
use Rattle.std.proofs.raw_atomic.Walks.{proved}
use mir.Val.{Val, vstruct, vnil}
use types.Kit.{raw, ◌$◌, ◌∵◌, !, qed, keep, join, suffices, done}
use types.Run.{no_more, returns, enter}
use types.Part.{agg}
use types.ByLocal.{alloc_all, pass_all, free_all, look_at, sets}
use denote.Shadow.{pure_i}
use denote.Steps.{nothing}
use denote.Triple.Entry.{on_entry}
use denote.Triple.Walked.{says, ends_at}
use Rattle.clk_ruled.specs.declared.accepted.AllAccepted.{AllAccepted}
use Rattle.clk_ruled.specs.contracts.accepted.AllAccepted.{the_row}
use Rattle.clk_ruled.specs.contracts.accepted.AllAccepted.none as f
use Rattle.clk_ruled.proofs.accepted.AllAccepted.none.Statement.{statement}
use Rattle.clk_ruled.proofs.accepted.AllAccepted.none.Code as code

abbrev no_bytes : Val
no_bytes = vstruct vnil

abbrev no_packets : AllAccepted
no_packets = record { items = [] }

pub none_spec : {M : Type 1} → statement M
none_spec 𝓤 𝓛 𝓜 𝓡 wired =
    let c = f.clauses 𝓛 𝓜.mem 𝓡.returns in
    proved 𝓛 f.ended tt c 𝓜 𝓡 tt f.Key.name code.function (code.unfolded 𝓤 𝓛.H 𝓜 𝓡 wired)
    (λ κs. tt) (λ κs. tt) (λ κs qs bounds a g _.
    qed 𝓛 (raw (on_entry 𝓛 f.signature κs qs a tt) ∷ raw ((c κs a).requires g) ∷ []) ∵ keep ! [] $
    enter ! _ _ _ _ _ $ alloc_all ! (λ l. pass_all ! refl tt $
    sets ! (agg ! (no_more !)) refl (tt, tt) $
    returns ! (look_at ! 0 refl) $ free_all ! refl $
    pure_i ! (the_row.own_val no_packets (no_bytes ∷ [])) ((λ uss. (tt, tt)), tt) ((tt, (refl, tt)), tt) $
    suffices ! _ (ends_at 𝓛 f.ended tt c ((κs, qs, bounds, a, tt), g) no_bytes no_packets tt tt) $ says ! refl $
    nothing ! $ join ! $ nothing ! $ done !))
