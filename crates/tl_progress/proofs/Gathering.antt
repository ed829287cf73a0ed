-- Joins: constants in them, and parts that are gathered.
use Rattle.std.proofs.Common.{◌≡◌, ◌<◌, ℕ, List, [], ◌∷◌, ◌++◌, flat_map, filter, Bool, true, false, cond, not, ◌||◌, Some, slice_get}
use Rattle.std.proofs.Common.{length, refl, sym, ap, ap₂, ◌∙◌, subst, arith, append_assoc}
use Rattle.std.specs.List.{list_any}
use Rattle.std.proofs.lemmas.Grind.{flat_map-append}
use Rattle.std.proofs.lemmas.List.{map-append}
use Rattle.std.proofs.lemmas.List.Elements.{filter-append}
use Rattle.std.proofs.lemmas.List.Folds.{list_any-append}
use Rattle.tl_nodes.specs.Fits.{all_below}
use Rattle.tl_nodes.specs.Joins.{simplified_join}
use Rattle.tl_nodes.specs.NodeTrees.{tree_at, trees_at}
use Rattle.tl_nodes.specs.Numbering.{Keeps}
use Rattle.tl_nodes.proofs.KeptNumbers.{inside, keeps-all, keeps-below, push-below}
use Rattle.tl_nodes.proofs.TreesOfNodes.{at-is, at-there, inside-true}
use Rattle.tl_syntax.specs.declared.junction.Junction.{Junction}
use Rattle.tl_syntax.specs.declared.junction.Junction.TheVariants.{All, Any}
use Rattle.tl_syntax.specs.declared.substitution.Binding.{Binding}
use Rattle.tl_syntax.specs.Bindings.{assignment_of}
use Rattle.tl_syntax.specs.Junctions.{deciding_truth}
use Rattle.tl_syntax.specs.Substitution.{substituted}
use Rattle.tl_syntax.specs.Trees.{FormulaTree, verum, falsum}
use Rattle.tl_syntax.proofs.Plain.{with_both}
use Rattle.tl_terms.specs.Progression.{constant}
use Rattle.tl_terms.specs.Simplification.{and_parts, or_parts, is_verum, is_falsum, without_repeats, conjunction_of, disjunction_of}
use Rattle.tl_terms.specs.Simplification.{simplified_and, simplified_or}
use Rattle.tl_terms.proofs.SubstitutionLaws.{substituted-none}
use Rattle.tl_progress.proofs.PutLayers.{stays, longer}

pub joined-and : (junction : Junction) (fs : List FormulaTree) → junction ≡ All → simplified_and fs ≡ simplified_join junction fs
unfolding simplified_join
joined-and junction fs e = sym (ap (λ b. simplified_join b fs) e)

pub joined-or : (junction : Junction) (fs : List FormulaTree) → junction ≡ Any → simplified_or fs ≡ simplified_join junction fs
unfolding simplified_join
joined-or junction fs e = sym (ap (λ b. simplified_join b fs) e)

-- ---- a constant among the parts

any-past : (p : FormulaTree → Bool) (xs ys : List FormulaTree) (c : FormulaTree) → p c ≡ false → list_any p (xs ++ c ∷ ys) ≡
    list_any p (xs ++ ys)
any-past p xs ys c h = list_any-append p xs (c ∷ ys) ∙ (ap (λ b. list_any p xs || (b || list_any p ys)) h ∙ sym (list_any-append p xs ys))

any-here : (p : FormulaTree → Bool) (xs ys : List FormulaTree) (c : FormulaTree) → p c ≡ true → list_any p (xs ++ c ∷ ys) ≡ true
any-here p xs ys c h = list_any-append p xs (c ∷ ys) ∙ (ap (λ b. list_any p xs || (b || list_any p ys)) h ∙ or-true (list_any p xs))
  where
    or-true : (a : Bool) → (a || true) ≡ true
    or-true true = refl
    or-true false = refl

filter-past : (p : FormulaTree → Bool) (xs ys : List FormulaTree) (c : FormulaTree) → p c ≡ false → filter p (xs ++ c ∷ ys) ≡
    filter p (xs ++ ys)
filter-past p xs ys c h = filter-append p xs (c ∷ ys) ∙ (ap (λ b. filter p xs ++ cond b (c ∷ filter p ys) (filter p ys)) h ∙
    sym (filter-append p xs ys))

flat-of : (parts : FormulaTree → List FormulaTree) (xs ys : List FormulaTree) (c : FormulaTree) → parts c ≡ c ∷ [] →
    flat_map parts (xs ++ c ∷ ys) ≡ flat_map parts xs ++ c ∷ flat_map parts ys
flat-of parts xs ys c h = flat_map-append parts xs (c ∷ ys) ∙ ap (λ zs. flat_map parts xs ++ (zs ++ flat_map parts ys)) h

and-past : (xs ys : List FormulaTree) → simplified_and (xs ++ verum ∷ ys) ≡ simplified_and (xs ++ ys)
unfolding simplified_and and_parts
and-past xs ys =
    let us = flat_map and_parts xs in let vs = flat_map and_parts ys in
    ap₂ (λ b fs. cond b falsum (conjunction_of (without_repeats fs)))
    (ap (list_any is_falsum) (flat-of and_parts xs ys verum refl) ∙ (any-past is_falsum us vs verum refl ∙
    ap (list_any is_falsum) (sym (flat_map-append and_parts xs ys))))
    (ap (filter (λ f. not (is_verum f))) (flat-of and_parts xs ys verum refl) ∙
    (filter-past (λ f. not (is_verum f)) us vs verum refl ∙ ap (filter (λ f. not (is_verum f)))
    (sym (flat_map-append and_parts xs ys))))

or-past : (xs ys : List FormulaTree) → simplified_or (xs ++ falsum ∷ ys) ≡ simplified_or (xs ++ ys)
unfolding simplified_or or_parts
or-past xs ys =
    let us = flat_map or_parts xs in let vs = flat_map or_parts ys in
    ap₂ (λ b fs. cond b verum (disjunction_of (without_repeats fs)))
    (ap (list_any is_verum) (flat-of or_parts xs ys falsum refl) ∙ (any-past is_verum us vs falsum refl ∙
    ap (list_any is_verum) (sym (flat_map-append or_parts xs ys))))
    (ap (filter (λ f. not (is_falsum f))) (flat-of or_parts xs ys falsum refl) ∙
    (filter-past (λ f. not (is_falsum f)) us vs falsum refl ∙ ap (filter (λ f. not (is_falsum f)))
    (sym (flat_map-append or_parts xs ys))))

-- a join drops one constant
pub joined-past : (junction : Junction) (xs ys : List FormulaTree) → simplified_join junction
    (xs ++ constant (not (deciding_truth junction)) ∷ ys) ≡ simplified_join junction (xs ++ ys)
unfolding simplified_join
joined-past All xs ys = and-past xs ys
joined-past Any xs ys = or-past xs ys

pub and-decided : (xs ys : List FormulaTree) → simplified_and (xs ++ falsum ∷ ys) ≡ falsum
unfolding simplified_and and_parts
and-decided xs ys = let ps = flat_map and_parts (xs ++ falsum ∷ ys) in
    ap (λ b. cond b falsum (conjunction_of (without_repeats (filter (λ f. not (is_verum f)) ps))))
    (ap (list_any is_falsum) (flat-of and_parts xs ys falsum refl) ∙ any-here is_falsum (flat_map and_parts xs)
    (flat_map and_parts ys) falsum refl)

or-decided : (xs ys : List FormulaTree) → simplified_or (xs ++ verum ∷ ys) ≡ verum
unfolding simplified_or or_parts
or-decided xs ys = let ps = flat_map or_parts (xs ++ verum ∷ ys) in ap
    (λ b. cond b verum (disjunction_of (without_repeats (filter (λ f. not (is_falsum f)) ps))))
    (ap (list_any is_verum) (flat-of or_parts xs ys verum refl) ∙ any-here is_verum (flat_map or_parts xs)
    (flat_map or_parts ys) verum refl)

-- the other constant decides it
pub joined-decided : (junction : Junction) (xs ys : List FormulaTree) →
    simplified_join junction (xs ++ constant (deciding_truth junction) ∷ ys) ≡ constant (deciding_truth junction)
unfolding simplified_join
joined-decided All xs ys = and-decided xs ys
joined-decided Any xs ys = or-decided xs ys

-- ---- numbers

-- a part that is dropped, or added
module _ (ts : List FormulaTree) (ids : List ℕ) (id : ℕ) (junction : Junction) where
  pub gathered-past : tree_at ts id ≡ constant (not (deciding_truth junction)) → (rest : List FormulaTree) →
      simplified_join junction (trees_at ts ids ++ rest) ≡ simplified_join junction (trees_at ts ids ++ tree_at ts id ∷ rest)
  gathered-past h rest = sym (ap (λ c. simplified_join junction (trees_at ts ids ++ c ∷ rest)) h ∙
      joined-past junction (trees_at ts ids) rest)

  pub gathered-more : (js : List ℕ) → js ≡ ids ++ id ∷ [] → (rest : List FormulaTree) → simplified_join junction (trees_at ts js ++ rest) ≡
      simplified_join junction (trees_at ts ids ++ tree_at ts id ∷ rest)
  gathered-more js e rest = ap (λ ks. simplified_join junction (trees_at ts ks ++ rest)) e ∙
      (ap (λ fs. simplified_join junction (fs ++ rest)) (map-append (tree_at ts) ids (id ∷ [])) ∙
      ap (simplified_join junction) (append_assoc (trees_at ts ids) (tree_at ts id ∷ []) rest))

  pub gathered-below : (js : List ℕ) → js ≡ ids ++ id ∷ [] → all_below (length ts) ids ≡ true → id < length ts → all_below (length ts) js ≡
      true
  gathered-below js e h l = subst (λ ks. all_below (length ts) ks ≡ true) (sym e)
      (push-below ts ids id (tree_at ts id) h (at-there ts id l))

-- what is gathered of parts, of which some are left
pub record Gathered (junction : Junction) (us : List FormulaTree) (ids : List ℕ) (left whole : List FormulaTree) : Type 0 where
  pub below : all_below (length us) ids ≡ true
  pub same : simplified_join junction (trees_at us ids ++ left) ≡ simplified_join junction whole

module _ (junction : Junction) where
  pub gather-begun : (us : List FormulaTree) (ids : List ℕ) (whole : List FormulaTree) → ids ≡ [] → Gathered junction us ids whole whole
  gather-begun us ids whole e = subst (λ (is : List ℕ). Gathered junction us is whole whole) (sym e) (record { below = refl; same = refl })

  -- another part, whose number is this
  module _ (ts us : List FormulaTree) (kept : Keeps ts us) (ids : List ℕ) (x : FormulaTree) (left whole : List FormulaTree)
      (was : Gathered junction ts ids (x ∷ left) whole) (id : ℕ) (there : slice_get us id ≡ Some x) where
    pub below-still : all_below (length us) ids ≡ true
    below-still = keeps-below ts us kept ids was.below

    next-part : simplified_join junction (trees_at us ids ++ tree_at us id ∷ left) ≡ simplified_join junction whole
    next-part = ap₂ (λ fs f. simplified_join junction (fs ++ f ∷ left)) (keeps-all ts us kept ids was.below) (at-is us id x there) ∙
        was.same

    pub gather-on : (js : List ℕ) → all_below (length us) js ≡ true → ((rest : List FormulaTree) →
        simplified_join junction (trees_at us js ++ rest) ≡ simplified_join junction (trees_at us ids ++ tree_at us id ∷ rest)) →
        Gathered junction us js left whole
    gather-on js b same = record { below = b; same = same left ∙ next-part }

    pub gather-decided : tree_at us id ≡ constant (deciding_truth junction) → slice_get us id ≡ Some (simplified_join junction whole)
    gather-decided h =
        there ∙ ap Some (sym (at-is us id x there) ∙ (h ∙ (sym (joined-decided junction (trees_at us ids) left) ∙
        (ap (λ f. simplified_join junction (trees_at us ids ++ f ∷ left)) (sym h) ∙ next-part))))

  pub gather-end : (us : List FormulaTree) (ids : List ℕ) (left whole : List FormulaTree) → Gathered junction us ids left whole →
      left ≡ [] → simplified_join junction (trees_at us ids) ≡ simplified_join junction whole
  gather-end us ids left whole was none = ap (simplified_join junction) (sym (append-none (trees_at us ids))) ∙
      (ap (λ fs. simplified_join junction (trees_at us ids ++ fs)) (sym none) ∙ was.same)
    where
      append-none : (xs : List FormulaTree) → xs ++ [] ≡ xs
      append-none [] = refl
      append-none (y ∷ xs) = ap (λ zs. y ∷ zs) (append-none xs)

-- ---- two parts

pub nothing-put : (bs : List Binding) → length bs ≡ 0 → (ts : List FormulaTree) (at : ℕ) → at < length ts → slice_get ts at ≡
    Some (substituted (assignment_of bs) (tree_at ts at))
nothing-put [] e ts at h = at-there ts at h ∙ ap (λ f. Some f) (sym (substituted-none (tree_at ts at)))
nothing-put (b ∷ bs) e ts at h = absurd (omega arith)

pub part-decides : (junction : Junction) (ts : List FormulaTree) (x : ℕ) (f : FormulaTree) → x < length ts → tree_at ts x ≡
    constant (deciding_truth junction) → slice_get ts x ≡ Some (simplified_join junction (tree_at ts x ∷ f ∷ []))
part-decides junction ts x f l h = at-there ts x l ∙ ap Some (h ∙ (sym (joined-decided junction [] (f ∷ [])) ∙
    ap (λ g. simplified_join junction (g ∷ f ∷ [])) (sym h)))

module _ (ts us : List FormulaTree) (kept : Keeps ts us) (x y : ℕ) (within : x < length ts) (f : FormulaTree)
    (there : slice_get us y ≡ Some f) where
  pub two-below : all_below (length us) (x ∷ y ∷ []) ≡ true
  two-below = with_both (inside-true x (length us) (longer ts us kept x within)) (with_both (inside us y f there) refl)

  pub two-trees : trees_at us (x ∷ y ∷ []) ≡ tree_at ts x ∷ f ∷ []
  two-trees = ap₂ (λ a b. a ∷ b ∷ []) (stays ts us kept x within) (at-is us y f there)
