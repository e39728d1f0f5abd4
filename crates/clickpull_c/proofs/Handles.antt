-- What the walks of handles share. A handle is a struct of a pointer and the heap's handle, which owns what a box does.
--     E                the box that a handle stands for
--     moves, Moves     a function that takes such a struct apart and makes another of its two fields;  it meets that what is owned is kept
use mathlib.Core.Path.{◌≡◌, refl, sym, subst}
use mathlib.Core.List.{List, [], ◌∷◌, ◌++◌}
use seplogic.Ra.Ura.{Ura}
use mir.Syntax.{Sym, Fn, Ty, impl, tnil, tcons, dnil, local, value_local, ty_ptr, ty_struct, place, field, copy, rv_opd, assign, aggregate, seq, return}
use mir.Val.{Val}
use base.Fml.{Fml, ftrue, fsep}
use base.Logic.{ent, emp}
use contract.Notation as notation
use sound.WpLaws.{WpFn-mono}
use prog.Wp.{WpFn, Tables}
use types.Logic.{Logic}
use types.Kit.{Item, ‵, raw, ◌⊛◌, ◌$◌, ◌∵◌, !, qed, by, move, drop, join, split, fsplit, fjoin, rewrite, suffices, done}
use types.Part.{whole, sub, agg}
use types.Run.{stop, fld, no_more, and_then, of_opd, returns, enter}
use types.ByLocal.{alloc_all, pass_all, free_all, look_at, get, get_in, sets}
use denote.Exit.{yes, unchanged}
use denote.RattleType.{RattleType}
use denote.Param.Laws.{Laws}
use denote.Signature.{Slot, plain}
use denote.Steps.{nothing}
use denote.Triple.Clauses.{Ended, Clauses, closing}
use denote.Triple.Spec.{Meets}
use denote.Triple.Walked.{says, Stays, stay_dropped, walk_of, ends_at, Goes-dropped, walk_Meets}
use Rattle.std_alloc.proofs.BoxSteps.Form.{Bx, D, B, word, box_typed}
use Rattle.std_alloc.proofs.BoxSteps.Steps.{box_out, box_in}
use Rattle.std.proofs.alloc.Calls.{α}
use Rattle.std_heap.specs.contracts.Global as Heap
use Rattle.std_heap.specs.contracts.GlobalAllocator.TheImpl.{ghosts, dict}
use Rattle.std_heap.proofs.Global.TheLaws as heap

-- a type of which an exit shows nothing, as a struct with `also_owns`
abbrev pub still : RattleType → RattleType
still A = record { Denot = A.Denot; mir = A.mir; written = A.written; reaches = A.reaches; lives = A.lives; own_val = A.own_val; exit = λ k. unchanged; coded = A.coded; shr_at = A.shr_at }

module _ (R : RattleType) (L : Laws R) where
  abbrev pub E : Bx
  E = record { row = R; laws = L; al = record { row = Heap.the_row; laws = heap.the_row_laws; g = ghosts; d = dict; drops = impl [] tnil dnil } }

  abbrev two : Sym → Ty
  two ν = ty_struct ν (tcons ty_ptr (tcons (α E.al) tnil))

  abbrev pub moves : Sym → Sym → Fn
  moves ν ν' = record {
    lifetimes = 0;
    outlives = [];
    ty_params = [];
    givens = 0;
    params = 1;
    locals = local (two ν') value_local ∷ local (two ν) value_local ∷ local ty_ptr value_local ∷ local (α E.al) value_local ∷ [];
    body = seq (assign (place 2 []) (rv_opd (copy (place 1 (field 0 ∷ []))))) (seq (assign (place 3 []) (rv_opd (copy (place 1 (field 1 ∷ [])))))
        (seq (assign (place 0 []) (aggregate (copy (place 2 []) ∷ copy (place 3 []) ∷ []))) return));
  }

  -- from A to C: each owns what a box does, and the clause keeps a value of type V
  module _ (A C : RattleType) (boxed : A.Denot → D E) (owns : (d : A.Denot) (vs : List Val) → A.own_val d vs ≡ (B E).own_val (boxed d) vs)
      (made : D E → C.Denot) (makes : (v : D E) (vs : List Val) → C.own_val (made v) vs ≡ (B E).own_val v vs)
      (V : Type 0) (had : A.Denot → V) (has : C.Denot → V) (keeps : (d : A.Denot) → has (made (boxed d)) ≡ had d) (ν ν' : Sym) where
    abbrev From : Slot 0
    From = plain (λ _. still A)

    abbrev ended : Ended
    ended = record { signature = record { lifetimes = 0; outlives = []; params = From ∷ []; result = plain (λ _. C) }; kept = (yes, tt) }

    abbrev stayed : Stays ended.signature.params ended.kept
    stayed = (stay_dropped From yes, tt)

    module _ {M : Type 1} {𝓤 : Ura M} (𝓛 : Logic 𝓤) (𝓣 : Tables 𝓤 𝓛.H) where
      open 𝓛 use {H}

      abbrev 𝓝 : notation.Connectives 𝓤
      𝓝 = notation.connectives 𝓤

      open 𝓝 use {⌜◌⌝, ⊤ₛ}

      abbrev clauses : Clauses 𝓤 ended
      clauses = λ κs a. record { ghost = Unit {0}; requires = λ g. ⊤ₛ; ensures = λ g r e. ⌜◌⌝ (has r ≡ had a.0) }

      walk : (z : (walk_of 𝓛 ended stayed clauses).Ghost) → ent 𝓤 ((walk_of 𝓛 ended stayed clauses).pre z) (WpFn 𝓤 H 𝓣.C 𝓣.Λ (moves ν ν') (z.0.4.0 ++ []) ((walk_of 𝓛 ended stayed clauses).post z))
      walk z =
          let Post = (walk_of 𝓛 ended stayed clauses).post z in
          let d = z.0.3.0 in
          let v : D E = boxed d in
          qed 𝓛 ((‵ ftrue ⊛ ‵ (fsep (A.own_val d z.0.4.0) ftrue)) ∷ raw (emp 𝓤) ∷ []) ∵ split ! $ drop ! $ fsplit ! $ rewrite ! 0 (λ (F : Fml). ‵ F) (owns d z.0.4.0) refl $
          box_out E ! v z.0.4.0 (λ b o hv e ws fa. box_in E ! v b o v.value e refl $
          let w = word E hv b o in
          rewrite ! 0 (λ (F : Fml). ‵ F) (sym (makes v (w ∷ []))) refl $ move ! (1 ∷ 2 ∷ []) $ drop ! $ drop ! $
          let Γ : List (Item 𝓤) = ‵ (C.own_val (made v) (w ∷ [])) ∷ [] in
          by ! (subst (λ (us : List Val). ent 𝓤 (types.Kit.⋆ 𝓛 Γ) (WpFn 𝓤 H 𝓣.C 𝓣.Λ (moves ν ν') (us ++ []) Post)) (sym ws)
          (qed 𝓛 Γ ∵ enter ! 𝓣.C 𝓣.Λ (moves ν ν') (w ∷ []) _ $ alloc_all ! (λ ls. pass_all ! refl (box_typed E hv b o fa, tt) $
          sets ! (of_opd ! (get_in ! (fld ! refl (stop !)) (sub ! 0 refl (whole !)))) refl (tt, tt) $ sets ! (of_opd ! (get_in ! (fld ! refl (stop !)) (sub ! 1 refl (whole !)))) refl fa $
          sets ! (agg ! (and_then ! (get ! refl) (and_then ! (get ! refl) (no_more !)))) refl (box_typed E hv b o fa) $ returns ! (look_at ! 0 refl) $ free_all ! refl $
          suffices ! _ (ends_at 𝓛 ended stayed clauses z w (made v) (tt, tt) (tt, tt)) $ says ! (keeps d) $
          nothing ! $ nothing ! $ fjoin ! $ join ! $ nothing ! $ join ! $ done !))))

      pub Moves : Meets 𝓛 ended.signature (WpFn 𝓤 H 𝓣.C 𝓣.Λ (moves ν ν')) (closing 𝓛 ended clauses)
      Moves = walk_Meets 𝓛 ended stayed (Goes-dropped 𝓛 0 From yes (λ κs x f. refl), tt) clauses (WpFn 𝓤 H 𝓣.C 𝓣.Λ (moves ν ν')) (WpFn-mono 𝓤 H 𝓛.laws 𝓣 (moves ν ν')) walk
