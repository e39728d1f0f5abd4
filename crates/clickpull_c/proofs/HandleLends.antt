-- A handle lends what it holds, and follows it: as a box lends its value. `Lends` is of every function that is written as `get_mut`.
use mathlib.Core.Path.{◌≡◌, refl, sym}
use Prim.Native.Nat.{ℕ}
use mathlib.Core.List.{List, [], ◌∷◌}
use seplogic.Ra.Ura.{Ura}
use base.Fraction.{full_share}
use mir.Syntax.{Sym, Fn, Ty, tnil, tcons, named, erased, mut, local, value_local, ty_ptr, ty_ref, ty_struct, ty_named, place, deref, field, copy, rv_opd, addr_of, assign, seq, block, return}
use mir.Val.{Val, vptr}
use mir.Raw.{raw as bare}
use base.Logic.{SProp, ent, sep, emp, via, fst∗}
use base.Fml.{Lft, GName, Share, Fml, ftrue, flft, fsep}
use contract.Notation as notation
use prog.Wp.{Env, Calls, Loops, WpFn, Tables}
use types.Logic.{Logic, sem}
use sound.WpLaws.{WpFn-mono}
use types.Kit.{‵, ◌⊛◌, some, at_ret, ◌$◌, ◌∵◌, !, qed, by, move, keep, use1, drop, split, join, pick, fsplit, fsplit3, fjoin, rewrite, suffices, frame, done, raw, later, await, group, fpack}
use types.Part.{whole, sub, look_in}
use types.Run.{stop, fld, load, of_opd, first, blocks, exec, returns, enter, addr}
use types.ByLocal.{alloc_all, pass_all, free_all, look_at, get, through, sets, env, sets_last}
use denote.Exit.{no, unchanged}
use denote.RattleType.{RattleType, owns}
use denote.Memory.{part_at, mem, cell_at, part_of}
use denote.Param.Laws.{Laws}
use denote.RawPtr.{block_ptr}
use denote.Ref.{MutRef, mut_vals, mut_Tells}
use denote.Follow.{follows, Part, lends_Part}
use denote.Signature.{Slot, plain, mut_ref_to}
use denote.Steps.{nothing, opens}
use denote.Triple.Clauses.{Ended, Clauses, closing}
use denote.Triple.Entry.{on_entry}
use denote.Triple.Spec.{Meets}
use denote.Triple.Walked.{says, Stays, stay_dropped, walk_of, ends_at, walked, walk_Meets, Goes-spent_ref}
use Rattle.std.proofs.alloc.Calls.{α, token}
use Rattle.std.proofs.VecSteps.Shapes.{after}
use Rattle.std_alloc.proofs.BoxSteps.Form.{D, B, τ, word, handle}
use Rattle.std_alloc.proofs.BoxSteps.Steps.{box_out, box_in}
use Rattle.clickpull_c.proofs.Handles.{E as BoxOf}

-- a type of one machine value
abbrev pub one_of : RattleType → Ty → RattleType
one_of V ρ = record { Denot = V.Denot; mir = ρ ∷ []; written = V.written; reaches = V.reaches; lives = V.lives; own_val = V.own_val; exit = V.exit; coded = V.coded; shr_at = V.shr_at }

module _ (V : RattleType) (ρ : Ty) (L : Laws (one_of V ρ)) (A : RattleType) (ν : Sym) where
  abbrev R : RattleType
  R = one_of V ρ

  abbrev E : Rattle.std_alloc.proofs.BoxSteps.Form.Bx
  E = BoxOf R L

  abbrev two : Ty
  two = ty_struct ν (tcons ty_ptr (tcons (α E.al) tnil))

  abbrev At : RattleType
  At = record { Denot = A.Denot; mir = two ∷ []; written = A.written; reaches = A.reaches; lives = A.lives; own_val = A.own_val; exit = λ k. unchanged; coded = A.coded; shr_at = A.shr_at }

  module _ (wr τr : Ty) (boxed : A.Denot → D E) (set : A.Denot → R.Denot → A.Denot)
      (has : (d : A.Denot) (vs : List Val) → A.own_val d vs ≡ (B E).own_val (boxed d) vs)
      (sets_it : (d : A.Denot) (x : R.Denot) (vs : List Val) → A.own_val (set d x) vs ≡ (B E).own_val (record { ptr = (boxed d).ptr; alloc = (boxed d).alloc; value = x }) vs) where
    abbrev pub lends : Fn
    lends = record {
      lifetimes = 1;
      outlives = [];
      ty_params = [];
      givens = 0;
      params = 1;
      locals = local (ty_ref (named 0) mut wr) value_local ∷ local (ty_ref (named 0) mut (ty_named (ν, []) tnil)) value_local ∷ local (ty_ref erased mut wr) value_local ∷ local ty_ptr value_local ∷ [];
      body = seq (block (seq (assign (place 3 []) (rv_opd (copy (place 1 (deref two ∷ field 0 ∷ []))))) (assign (place 2 []) (addr_of (place 3 (deref τr ∷ []))))))
          (seq (assign (place 0 []) (rv_opd (copy (place 2 [])))) return);
    }

    abbrev FromRef : Slot 1
    FromRef = mut_ref_to (0 ∷ []) tt (plain (λ _. At))

    abbrev ended : Ended
    ended = record { signature = record { lifetimes = 1; outlives = []; params = FromRef ∷ []; result = mut_ref_to (0 ∷ []) tt (plain (λ _. R)) }; kept = (no, tt) }

    abbrev stayed : Stays ended.signature.params ended.kept
    stayed = (stay_dropped FromRef no, tt)

    module _ {M : Type 1} {𝓤 : Ura M} (𝓛 : Logic 𝓤) where
      abbrev 𝓝 : notation.Connectives 𝓤
      𝓝 = notation.connectives 𝓤

      open 𝓝 use {⌜◌⌝, ⊤ₛ, ◌∗◌}

      abbrev clauses : Clauses 𝓤 ended
      clauses = λ κs a. record { ghost = Unit {0}; requires = λ g. ⊤ₛ; ensures = λ g r e. ◌∗◌ (sem 𝓛 (follows At R a.0.ghost_name r.ghost_name (set a.0.now))) (⌜◌⌝ (r.now ≡ (boxed a.0.now).value)) }

    module _ {M : Type 1} {𝓤 : Ura M} (𝓛 : Logic 𝓤) (κ : Lft) (q : Share) (rb ro : ℕ) (γ : GName) (h : A.Denot) where
      open 𝓛 use {H, A as Lts}

      abbrev bound : (walk_of 𝓛 ended stayed (clauses 𝓛)).Ghost
      bound = (((κ, tt), (q, tt), tt, (record { ref_ptr = (rb, ro); ghost_name = γ; now = h }, tt), (vptr rb ro ∷ [], tt)), tt)

      abbrev Post : Val → SProp 𝓤
      Post = (walk_of 𝓛 ended stayed (clauses 𝓛)).post bound

      module _ (b o : ℕ) (hv : Val) where
        -- all of the handle but the value
        abbrev Rest : Fml
        Rest = fsep (fsep (token E.al (boxed h).alloc (bare (τ E)) (block_ptr b o)) (handle E (boxed h).alloc hv)) (cell_at full_share At.mir (word E hv b o ∷ []) rb ro)

        back : (boxed h).ptr ≡ block_ptr b o → (w : R.Denot) → ent 𝓤 (sep 𝓤 (sem 𝓛 ((mem R).own_at w b o)) (sem 𝓛 Rest)) (sem 𝓛 ((mem At).own_at (set h w) rb ro))
        unfolding part_of
        back at_b w =
            qed 𝓛 (‵ (part_at R full_share w b o) ∷ ‵ Rest ∷ []) ∵ move ! (1 ∷ []) $ fsplit ! $ fsplit ! $ move ! (3 ∷ []) $
            box_in E ! (record { ptr = (boxed h).ptr; alloc = (boxed h).alloc; value = w }) b o w at_b refl $ rewrite ! 0 (λ (F : Fml). ‵ F) (sym (sets_it h w (word E hv b o ∷ []))) refl $ move ! (1 ∷ 0 ∷ []) $ fjoin ! $
            fpack ! (List Val) (λ us. fsep (cell_at full_share At.mir us rb ro) (At.own_val (set h w) us)) (word E hv b o ∷ []) $ done !

        exits : (γ' : GName)
            → ent 𝓤 (sep 𝓤 (sem 𝓛 ((MutRef (named 0) κ R).own_val (record { ref_ptr = (b, o); ghost_name = γ'; now = (boxed h).value }) (vptr b o ∷ []))) (sep 𝓤 (Lts.lft κ q) (sem 𝓛 (follows At R γ γ' (set h))))) (Post (vptr b o))
        exits γ' =
            qed 𝓛 (‵ ((MutRef (named 0) κ R).own_val (record { ref_ptr = (b, o); ghost_name = γ'; now = (boxed h).value }) (vptr b o ∷ [])) ∷ ‵ (flft κ q) ∷ ‵ (follows At R γ γ' (set h)) ∷ []) ∵
            suffices ! _ (ends_at 𝓛 ended stayed (clauses 𝓛) bound (vptr b o) (record { ref_ptr = (b, o); ghost_name = γ'; now = (boxed h).value }) (tt, tt) (tt, tt)) $
            nothing ! $ nothing ! $ fjoin ! $ join ! $ nothing ! $ move ! (2 ∷ 0 ∷ []) $ join ! $ join ! $ frame ! $ says ! refl $ done !

      module _ (C : Calls 𝓤 H) (Λ : Loops 𝓤 H) where
        walk : ent 𝓤 (on_entry 𝓛 ended.signature (κ, tt) (q, tt) (record { ref_ptr = (rb, ro); ghost_name = γ; now = h }, tt) (vptr rb ro ∷ [], tt)) (WpFn 𝓤 H C Λ lends (vptr rb ro ∷ []) Post)
        walk =
            qed 𝓛 ((‵ (flft κ q) ⊛ ‵ ftrue) ∷ ‵ (owns (MutRef (named 0) κ At ∷ []) (record { ref_ptr = (rb, ro); ghost_name = γ; now = h }, tt) (vptr rb ro ∷ [], tt)) ∷ []) ∵
            enter ! C Λ lends (vptr rb ro ∷ []) _ $
            alloc_all ! (λ l. pass_all ! refl ((tt, tt), tt) $
            let En : Env 𝓤 H = env lends.locals l in
            move ! (1 ∷ []) $ fsplit ! $ fsplit3 ! $ drop ! $ move ! (3 ∷ []) $ split ! $ move ! (2 ∷ 3 ∷ 0 ∷ []) $
            opens ! tt At {h = h} rb ro (λ vs. move ! (1 ∷ []) $ rewrite ! 0 (λ (F : Fml). ‵ F) (has h vs) refl $
            box_out E ! (boxed h) vs (λ b o hv at_b ws fa. move ! (1 ∷ 2 ∷ []) $ fjoin ! $ move ! (1 ∷ []) $
            rewrite ! 2 (λ (us : List Val). ‵ (cell_at full_share At.mir us rb ro)) ws refl $
            -- [the value; the right to its block with the allocator; the handle's cell; the open borrow, in three entries]
            first ! $ blocks ! $
            sets ! (of_opd ! (load ! (through ! refl (fld ! refl (stop !))) (look_in ! 2 (sub ! 0 refl (whole !))))) refl (tt, tt) $
            sets_last ! (addr ! (through ! refl (stop !))) refl (tt, tt) $
            exec ! C Λ En (after 1 lends.body) (at_ret En Post) $
            sets ! (of_opd ! (get ! refl)) refl (tt, tt) $
            move ! (1 ∷ 2 ∷ []) $ fjoin ! $ move ! (2 ∷ 3 ∷ 4 ∷ 1 ∷ 0 ∷ []) $ group ! 5 $
            use1 𝓛 (later (some (λ (γ' : GName). raw (Part 𝓛 At R (set h) (named 0) κ q rb ro b o γ (sem 𝓛 (Rest b o hv)) (back b o hv at_b) (boxed h).value γ'))))
            (lends_Part 𝓛 At R (set h) (named 0) κ q rb ro b o γ (sem 𝓛 (Rest b o hv)) (back b o hv at_b) (At.coded.code h) (At.coded.code h) (boxed h).value) $ await ! tt $ pick ! (λ γ'.
            returns ! (look_at ! 0 refl) $ free_all ! refl $
            keep ! (0 ∷ []) $ by ! (exits b o hv γ')))))

    pub Lends : {M : Type 1} {𝓤 : Ura M} (𝓛 : Logic 𝓤) (𝓣 : Tables 𝓤 𝓛.H) → Meets 𝓛 ended.signature (WpFn 𝓤 𝓛.H 𝓣.C 𝓣.Λ lends) (closing 𝓛 ended (clauses 𝓛))
    Lends {𝓤 = 𝓤} 𝓛 𝓣 =
        walk_Meets 𝓛 ended stayed (Goes-spent_ref 𝓛 1 (0 ∷ []) tt (plain (λ _. At)), tt) (clauses 𝓛) (WpFn 𝓤 𝓛.H 𝓣.C 𝓣.Λ lends) (WpFn-mono 𝓤 𝓛.H 𝓛.laws 𝓣 lends)
        (walked 𝓛 ended stayed (clauses 𝓛) (WpFn 𝓤 𝓛.H 𝓣.C 𝓣.Λ lends) (λ κs. (mut_vals, tt)) (λ κs. (mut_Tells (named 0) κs.0 At, tt))
        (λ κs qs bounds a g are. via 𝓤 _ (fst∗ 𝓤 _ (emp 𝓤)) (walk 𝓛 κs.0 qs.0 a.0.ref_ptr.0 a.0.ref_ptr.1 a.0.ghost_name a.0.now 𝓣.C 𝓣.Λ)))
