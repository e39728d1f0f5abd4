-- Elements of a plan, one after another.
use Rattle.std.proofs.Common.{◌≡◌, ◌≤◌, ◌<◌, ◌+◌, ℕ, suc, List, [], ◌∷◌, ◌++◌, length, map, drop, get_or, Some, None, ◌^◌, refl, sym, ap, ap₂, subst, ◌∙◌, append_assoc, length-append, add-one, drop-cons, arith, rules}
use Rattle.std.proofs.lemmas.List.{length-map, length-drop}
use Rattle.std.specs.List.{AllByRecursion, filter_map}
use Rattle.clk_syntax.specs.declared.naming.class.Class as declared
use Rattle.clk_syntax.specs.declared.texts.statements.Declaration.{Declaration}
use Rattle.clk_syntax.specs.declared.checks.tables.Graph.{Graph}
use Rattle.clk_syntax.specs.declared.texts.token.Token.{Token}
use Rattle.clk_syntax.specs.Classes.{Class, class_view, numbers_in, is_class}
use Rattle.clk_syntax.specs.declared.limits.TheConstants.{MAX_TREE_BYTES}
use Rattle.clk_syntax.specs.Source.{Declared, Element, letters, element, elements, kept}
use Rattle.clk_syntax.specs.Declarations.{class_in}
use Rattle.clk_syntax.specs.Within.{IsWithin, IsDeclaredWithin, words_in}
use Rattle.clk_syntax.proofs.Callers.Elements.{width-in}
use Rattle.clk_tree.specs.declared.plan.element.Element as plan
use Rattle.clk_tree.specs.Plan.{Planned, Known, known, all_known, planned_from}
use Rattle.clk_tree.specs.Elements.{planned}
use Rattle.clk_tree.specs.inside.Kept.{known_as, names_as}

-- the elements of these, from a place on
abbrev pub planned_in : Graph → ℕ → List Known → List Planned
planned_in graph place ks = planned_from (length graph.nodes.now) graph.links.now place ks

planned-append : (graph : Graph) (place : ℕ) (xs ys : List Known) → planned_in graph place (xs ++ ys) ≡ planned_in graph place xs ++ planned_in graph (place + length xs) ys
planned-append graph place [] ys = ap (λ p. planned_in graph p ys) (omega arith)
planned-append graph place (x ∷ xs) ys = search (rules, (planned-append graph (place + 1) xs ys))

-- What is known of the elements so far when these names of all are left.
pub record AreAdded (graph : Graph) (text : List ℕ) (class : Class) (all rest : List Token) (before now : List plan.Element) : Type 0 where
  pub is : map planned now ++ planned_in graph (length now) (names_as text class rest) ≡ map planned before ++ planned_in graph (length before) (names_as text class all)
  pub count : length now + length rest ≡ length before + length all
  pub within : AllByRecursion (IsWithin (length text)) rest

-- all names are added
pub record AreAll (graph : Graph) (text : List ℕ) (class : Class) (all : List Token) (before now : List plan.Element) : Type 0 where
  pub is : map planned now ≡ map planned before ++ planned_in graph (length before) (names_as text class all)
  pub count : length now ≡ length before + length all

-- elements that are declared together are known by one class
known-together : (text : List ℕ) (d : Declared) (class : Class) (names : List Token) (more : List Element) → class_in text d ≡ Some class
    → filter_map known (map (element text d.class d.arguments) names ++ more) ≡ names_as text class names ++ filter_map known more
known-together text d class [] more is = refl
known-together text d class (name ∷ names) more is = search (rules, (known-together text d class names more is))

-- What is known of the elements so far when these declarations of all are left, with their classes.
pub record AreBuilt (graph : Graph) (text : List ℕ) (all rest : List Declared) (classes : List declared.Class) (now : List plan.Element) : Type 0 where
  pub is : map planned now ++ planned_in graph (length now) (all_known (elements text rest)) ≡ planned_in graph 0 (all_known (elements text all))
  pub room : length now + length (all_known (elements text rest)) ≡ length graph.nodes.now
  pub known : map (class_in text) rest ≡ map is_class classes
  pub within : AllByRecursion (IsDeclaredWithin (length text)) rest
  pub words : words_in rest ≤ words_in all

-- one more declaration
built : (graph : Graph) (text : List ℕ) (all rest : List Declared) (d : Declared) (class : declared.Class) (classes : List declared.Class) (now new : List plan.Element)
    → AreBuilt graph text all (d ∷ rest) (class ∷ classes) now → AreAll graph text (class_view class) d.names now new → AreBuilt graph text all rest classes new
built graph text all rest d class classes now new h a = record {
  is = ap₂ (λ ps n. ps ++ planned_in graph n (all_known (elements text rest))) a.is (a.count ∙ ap (λ n. length now + n) (sym (length-map d.names (λ name. known_as (letters text name) (class_view class)))))
      ∙ append_assoc (map planned now) (planned_in graph (length now) (names_as text (class_view class) d.names)) _
      ∙ ap (λ ps. map planned now ++ ps) (sym (planned-append graph (length now) (names_as text (class_view class) d.names) (all_known (elements text rest))))
      ∙ ap (λ ks. map planned now ++ planned_in graph (length now) ks) (sym together) ∙ h.is;
  room = let r = h.room in let t = ap length together ∙ length-append (names_as text (class_view class) d.names) (all_known (elements text rest)) in
      let n = length-map d.names (λ name. known_as (letters text name) (class_view class)) in let c = a.count in omega (arith, r, t, n, c);
  known = ap (drop 1) h.known;
  within = h.within.1;
  words = let w = h.words in omega (arith, w);
}
  where
    together : all_known (elements text (d ∷ rest)) ≡ names_as text (class_view class) d.names ++ all_known (elements text rest)
    together = known-together text d (class_view class) d.names (elements text rest) (ap (λ os. get_or os 0 None) h.known)

-- the declaration at a place, with its class, and those after it
pub built-at : (graph : Graph) (text : List ℕ) (all : List Declared) (ds : List Declaration) (classes : List declared.Class) (k : ℕ) (d : Declaration) (class : declared.Class) (now : List plan.Element)
    → AreBuilt graph text all (map kept (drop k ds)) (drop k classes) now → k < length ds → (k < length classes) × AreBuilt graph text all (kept (get_or ds k d) ∷ map kept (drop (k + 1) ds)) (get_or classes k class ∷ drop (k + 1) classes) now
built-at graph text all ds classes k d class now h l =
    let same : length (drop k ds) ≡ length (drop k classes) =
    sym (length-map (drop k ds) kept) ∙ sym (length-map (map kept (drop k ds)) (class_in text)) ∙ ap length h.known ∙ length-map (drop k classes) is_class in
    let inside : k < length classes = omega (arith, l, same, length-drop k ds, length-drop k classes) in (
      inside,
      rw (add-one k) (subst (λ cs. AreBuilt graph text all (kept (get_or ds k d) ∷ map kept (drop (suc k) ds)) cs now) (drop-cons classes k class inside)
          (subst (λ es. AreBuilt graph text all (map kept es) (drop k classes) now) (drop-cons ds k d l) h)),
    )

pub built-more : (graph : Graph) (text : List ℕ) (all : List Declared) (ds : List Declaration) (classes : List declared.Class) (k : ℕ) (d : Declaration) (class : declared.Class) (now new : List plan.Element)
    → AreBuilt graph text all (map kept (drop k ds)) (drop k classes) now → k < length ds → AreAll graph text (class_view (get_or classes k class)) (get_or ds k d).names.items now new
    → AreBuilt graph text all (map kept (drop (k + 1) ds)) (drop (k + 1) classes) new
built-more graph text all ds classes k d class now new h l a =
    built graph text all (map kept (drop (k + 1) ds)) (kept (get_or ds k d)) (get_or classes k class) (drop (k + 1) classes) now new (built-at graph text all ds classes k d class now h l).1 a

-- what is known where the next declaration is added: its names are within the text and have room, and its class has few numbers
pub record CanAdd (graph : Graph) (text : List ℕ) (d : Declared) (class : declared.Class) (now : List plan.Element) : Type 0 where
  pub within : AllByRecursion (IsWithin (length text)) d.names
  pub room : length now + length d.names ≤ length graph.nodes.now
  pub numbers : length (numbers_in (class_view class)) < 2 ^ 32

pub can-add : (graph : Graph) (text : List ℕ) (all rest : List Declared) (d : Declared) (class : declared.Class) (classes : List declared.Class) (now : List plan.Element)
    → AreBuilt graph text all (d ∷ rest) (class ∷ classes) now → words_in all ≤ MAX_TREE_BYTES → CanAdd graph text d class now
can-add graph text all rest d class classes now h few =
    let is : class_in text d ≡ Some (class_view class) = ap (λ os. get_or os 0 None) h.known in
    let together = known-together text d (class_view class) d.names (elements text rest) is in
    record {
      within = h.within.0.0;
      room = let r = h.room in let t = ap length together ∙ length-append (names_as text (class_view class) d.names) (all_known (elements text rest)) in
          let n = length-map d.names (λ name. known_as (letters text name) (class_view class)) in omega (arith, r, t, n);
      numbers = let w = width-in text d (class_view class) is in let u = h.words in omega (arith, w, u, few);
    }

-- the same, where the declaration and the class are those that were read at the place
pub built-read : (graph : Graph) (text : List ℕ) (all : List Declared) (ds : List Declaration) (classes : List declared.Class) (k : ℕ) (d : Declaration) (class : declared.Class) (names : List Token) (now new : List plan.Element)
    → AreBuilt graph text all (map kept (drop k ds)) (drop k classes) now → k < length ds → d ≡ get_or ds k d → class ≡ get_or classes k class → names ≡ d.names.items
    → map planned new ≡ map planned now ++ planned_in graph (length now) (names_as text (class_view class) names) → length new ≡ length now + length names
    → AreBuilt graph text all (map kept (drop (k + 1) ds)) (drop (k + 1) classes) new
built-read graph text all ds classes k d class names now new h l there is same is_all count =
    built-more graph text all ds classes k d class now new h l (record {
      is = is_all ∙ ap₂ (λ c ns. map planned now ++ planned_in graph (length now) (names_as text (class_view c) ns)) is (same ∙ ap (λ x. x.names.items) there);
      count = count ∙ ap (λ ns. length now + length ns) (same ∙ ap (λ x. x.names.items) there);
    })

-- what is known where they are added
pub can-add-read : (graph : Graph) (text : List ℕ) (all : List Declared) (ds : List Declaration) (classes : List declared.Class) (k : ℕ) (d : Declaration) (class : declared.Class) (now : List plan.Element)
    → AreBuilt graph text all (map kept (drop k ds)) (drop k classes) now → k < length ds → d ≡ get_or ds k d → class ≡ get_or classes k class → words_in all ≤ MAX_TREE_BYTES → CanAdd graph text (kept d) class now
can-add-read graph text all ds classes k d class now h l there is few =
    subst (λ x. CanAdd graph text (kept x) class now) (sym there) (subst (λ x. CanAdd graph text (kept (get_or ds k d)) x now) (sym is)
    (can-add graph text all (map kept (drop (k + 1) ds)) (kept (get_or ds k d)) (get_or classes k class) (drop (k + 1) classes) now (built-at graph text all ds classes k d class now h l).1 few))
