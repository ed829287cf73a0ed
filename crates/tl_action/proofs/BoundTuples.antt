-- The tuples of a bound in turn.
use Rattle.std.proofs.Common.{◌≡◌, ◌<◌, List, [], ◌∷◌, ◌++◌, append_assoc, append-nil, length, Option, Some, None, inl, inr, refl, sym, ap}
use Rattle.std.proofs.Common.{◌∙◌, subst, arith}
use Rattle.tl_eval.proofs.TupleRest.{rest_after, all-after-none, rest-none, rest-some}
use Rattle.tl_syntax.specs.declared.bound.Bound.{Bound}
use Rattle.tl_syntax.specs.declared.value.Value.{Value}
use Rattle.tl_syntax.specs.declared.variable.Var.{Var}
use Rattle.tl_syntax.specs.Assignment.{Assignment, bind}
use Rattle.tl_syntax.specs.BoundVariables.{OccurIn, DifferInSlot}
use Rattle.tl_syntax.specs.Lists.{Among}
use Rattle.tl_syntax.proofs.ListLaws.{One-append}
use Rattle.tl_terms.specs.Bounds.{bound_true, tuples}
use Rattle.tl_terms.specs.Situation.{Situation}
use Rattle.tl_match.specs.Next.{IsNext}

-- ---- the tuples of a bound, of which some are done, and what comes after one is left

module _ (s : Situation) (e : Assignment) (ss : List Var) (b : Bound) where
  abbrev pub all : List (List Value)
  all = tuples s e ss b

  -- the tuples that come after the one, where it is given
  abbrev pub left : Option (List Value) → List (List Value)
  left after = rest_after after all

  pub none-done : left None ≡ all
  none-done = sym (all-after-none all)

module _ (s : Situation) (e : Assignment) (ss : List Var) (b : Bound) (d : DifferInSlot ss) (o : OccurIn ss b)
    (after next : Option (List Value)) (n : IsNext (length ss) (λ t. bound_true s (bind ss t e) b) after next) where
  -- the next tuple is the first of what is left
  pub first-left : (t : List Value) → next ≡ Some t → left s e ss b after ≡ t ∷ left s e ss b (Some t)
  first-left t q = rest-some s e ss b d o after t (subst (IsNext (length ss) (λ t. bound_true s (bind ss t e) b) after) q n)

  pub none-left : next ≡ None → left s e ss b after ≡ []
  none-left q = rest-none s e ss b d o after (subst (IsNext (length ss) (λ t. bound_true s (bind ss t e) b) after) q n)

  pub fewer-left : (t : List Value) → next ≡ Some t → length (left s e ss b (Some t)) < length (left s e ss b after)
  fewer-left t q = let longer = ap (λ (ts : List (List Value)). length ts) (first-left t q) in omega arith

  module _ (done : List (List Value)) (h : done ++ left s e ss b after ≡ all s e ss b) where
    pub done-on : (t : List Value) → next ≡ Some t → (done ++ t ∷ []) ++ left s e ss b (Some t) ≡ all s e ss b
    done-on t q = append_assoc done (t ∷ []) (left s e ss b (Some t)) ∙
        (ap (λ (ts : List (List Value)). done ++ ts) (sym (first-left t q)) ∙ h)

    pub done-all : next ≡ None → done ≡ all s e ss b
    done-all q = sym (append-nil done) ∙ (ap (λ (ts : List (List Value)). done ++ ts) (sym (none-left q)) ∙ h)

    pub next-among : (t : List Value) → next ≡ Some t → Among t (all s e ss b)
    next-among t q = subst (Among t) (ap (λ (ts : List (List Value)). done ++ ts) (sym (first-left t q)) ∙ h)
        ((One-append (λ u. u ≡ t) done (t ∷ left s e ss b (Some t))).1 (inr (inl refl)))
