use Rattle.std.proofs.Common.{◌≡◌, ◌<◌, ◌≤◌, length, slice_set, Some, None, slice_get, inl, inr, refl, sym, ap, ◌∙◌, subst, arith}
use Rattle.std.specs.Option.{option_map}
use Rattle.std.proofs.lemmas.List.{length-map, map-set, set-get_or}
use Rattle.std.proofs.lemmas.Option.{slice_get-map, slice_get_past, slice_get_read, get_or_from_slice_get}
use Rattle.clk_router.specs.Course.{Course, sender_at}
use Rattle.clickpull_c.specs.Answers.{IsUnknown}
use Rattle.clickpull_c.specs.live.Handing.{unknown_sender, handed_out}
use Rattle.clickpull_c.specs.live.State.{inlets_of}
use Rattle.clickpull_c.proofs.live.handing.claim.Goals as goal

pub returns-in_default-index_of-clause-refused : goal.returns-in_default-index_of-clause-refused
returns-in_default-index_of-clause-refused c =
    unknown_sender c.in-Some.live c.in-Some.is refl (subst (λ (k : Course). IsUnknown k c.args.sender) c.router.ensures.course (c.in_default-index_of.ensures.missing refl))

pub returns-then-place-len-clause-refused : goal.returns-then-place-len-clause-refused
returns-then-place-len-clause-refused c =
    let l = c.args.router.now in
    let place = c.in-Some-index_of.place in
    let past : length l.inlets.items ≤ place = grind arith in
    let many = length-map l.inlets.items (option_map (λ b. b.value)) in
    handed_out c.in-Some.live c.in-Some.is refl place (subst (λ (k : Course). sender_at k.setup place ≡ Some c.args.sender) c.router.ensures.course c.in-Some-index_of.ensures.found)
    (inl (slice_get_past (inlets_of l) place (omega (arith, many, past))))

pub returns-in-Some-take-clause-claimed : goal.returns-in-Some-take-clause-claimed
returns-in-Some-take-clause-claimed c =
    let l = c.args.router.now in
    let items = l.inlets.items in
    let place = c.in-Some-index_of.place in
    let inlet = c.in-Some-take.inlet in
    let low : place < length items = grind arith in
    let here : slice_get items place ≡ Some c.index_mut.result.now = slice_get_read items _ place c.index_mut.result.now refl low c.index_mut.ensures.value in
    let was : c.index_mut.result.now ≡ Some inlet = sym c.take.ensures.value ∙ c.in-Some-take.is in
    record {
      answers = refl;
      state = c.in-Some.live;
      is_open = c.in-Some.is;
      place = place;
      sender_is = subst (λ (k : Course). sender_at k.setup place ≡ Some c.args.sender) c.router.ensures.course c.in-Some-index_of.ensures.found;
      inlet = inlet.value;
      had = slice_get-map (option_map (λ b. b.value)) items place ∙ ap (option_map (option_map (λ b. b.value))) (here ∙ ap Some was);
      gives = refl;
      has = map-set (option_map (λ b. b.value)) items place c.take.new.self ∙ ap (λ x. slice_set (inlets_of l) place (option_map (λ b. b.value) x)) c.take.ensures.after;
      same = (refl, refl);
    }

pub returns-in-None-clause-refused : goal.returns-in-None-clause-refused
returns-in-None-clause-refused c =
    let l = c.args.router.now in
    let items = l.inlets.items in
    let place = c.in-Some-index_of.place in
    let low : place < length items = grind arith in
    let here : slice_get items place ≡ Some c.index_mut.result.now = slice_get_read items _ place c.index_mut.result.now refl low c.index_mut.ensures.value in
    let was : c.index_mut.result.now ≡ None = sym c.take.ensures.value ∙ c.in-None.is in
    handed_out c.in-Some.live c.in-Some.is refl place (subst (λ (k : Course). sender_at k.setup place ≡ Some c.args.sender) c.router.ensures.course c.in-Some-index_of.ensures.found)
    (inr (slice_get-map (option_map (λ b. b.value)) items place ∙ ap (option_map (option_map (λ b. b.value))) (here ∙ ap Some was)))

pub returns-in-None-clause-unchanged : goal.returns-in-None-clause-unchanged
returns-in-None-clause-unchanged c =
    let l = c.args.router.now in
    let items = l.inlets.items in
    let place = c.in-Some-index_of.place in
    let low : place < length items = grind arith in
    let here : slice_get items place ≡ Some c.index_mut.result.now = slice_get_read items _ place c.index_mut.result.now refl low c.index_mut.ensures.value in
    let was : c.index_mut.result.now ≡ None = sym c.take.ensures.value ∙ c.in-None.is in
    let none : slice_get (inlets_of l) place ≡ Some None = slice_get-map (option_map (λ b. b.value)) items place ∙ ap (option_map (option_map (λ b. b.value))) (here ∙ ap Some was) in
    let same = get_or_from_slice_get (inlets_of l) place None None none in
    record {
      live = refl;
      inlets = map-set (option_map (λ b. b.value)) items place c.take.new.self ∙ ap (λ x. slice_set (inlets_of l) place (option_map (λ b. b.value) x)) c.take.ensures.after ∙ ap (slice_set (inlets_of l) place) (sym same) ∙ set-get_or (inlets_of l) place None;
      reclaimed = refl;
    }
