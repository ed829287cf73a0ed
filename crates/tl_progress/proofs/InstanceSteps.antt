-- A step from one instance of a quantifier to the next.
use Rattle.std.proofs.Common.{◌≡◌, ◌<◌, List, [], ◌∷◌, length, Bool, true, false, Option, Some, sym, ap, ◌∙◌, subst}
use Rattle.tl_eval.specs.BoundTuples.{ReadsBound}
use Rattle.tl_eval.specs.Frames.{assignment_in, AgreeElsewhere}
use Rattle.tl_syntax.specs.declared.bound.Bound.{Bound}
use Rattle.tl_syntax.specs.declared.value.Value.{Value}
use Rattle.tl_syntax.specs.declared.variable.Var.{Var}
use Rattle.tl_syntax.specs.Assignment.{Assignment, bind}
use Rattle.tl_syntax.specs.BoundVariables.{OccurIn, DifferInSlot}
use Rattle.tl_syntax.specs.Lists.{Among}
use Rattle.tl_syntax.specs.Trees.{FormulaTree}
use Rattle.tl_terms.specs.Bounds.{bound_true}
use Rattle.tl_terms.specs.Definitions.{situation_of}
use Rattle.tl_terms.specs.Problem.{PlainProblem}
use Rattle.tl_terms.specs.World.{World}
use Rattle.tl_world.specs.MatchReading.{Reading}
use Rattle.tl_match.specs.Next.{IsNext}
use Rattle.tl_progress.specs.Quantifiers.{HasStepped}
use Rattle.tl_progress.proofs.Instances.{all_tuples, left_after, no-more, one-more, fewer-left, is-tuple}

-- an instance has come: the tuple is the next one, and the frame has its values
pub record HasCome (p : PlainProblem) (w : World) (e : Assignment) (ss : List Var) (b : Bound) (f : FormulaTree)
    (before after : Option (List Value)) (new : List (Option Value)) : Type 0 where
  pub tuple : List Value
  pub is : after ≡ Some tuple
  pub next : IsNext (length ss) (λ t. bound_true (situation_of p w) (bind ss t e) b) before after
  pub here : assignment_in new ≡ bind ss tuple e
  pub among : Among tuple (all_tuples p w e ss b f)
  pub left : left_after p w e ss b f before ≡ tuple ∷ left_after p w e ss b f after
  pub fewer : length (left_after p w e ss b f after) < length (left_after p w e ss b f before)

module _ (p : PlainProblem) (w : World) (e : Assignment) (ss : List Var) (b : Bound) (f : FormulaTree) (before after : Reading)
    (old new : List (Option Value)) (found : Bool)
    (s : HasStepped (situation_of p w) ss b before after old new found) (reads : ReadsBound (situation_of p w) ss e b before) where
  pub has-come : DifferInSlot ss → OccurIn ss b → AgreeElsewhere ss (assignment_in old) e → found ≡ true →
      HasCome p w e ss b f before.tuple after.tuple new
  has-come d o others h =
      let put = s.put h in
      let next = s.next e reads in
      let same : left_after p w e ss b f (Some put.0) ≡ left_after p w e ss b f after.tuple = ap (left_after p w e ss b f) (sym put.1) in
      record {
        tuple = put.0;
        is = put.1;
        next = next;
        here = put.2 ∙ others put.0;
        among = is-tuple p w e ss b f d o before.tuple after.tuple put.0 next put.1;
        left = one-more p w e ss b f d o before.tuple after.tuple put.0 next put.1 ∙ ap (λ (ts : List (List Value)). put.0 ∷ ts) same;
        fewer = subst (λ (ts : List (List Value)). length ts < length (left_after p w e ss b f before.tuple)) same
            (fewer-left p w e ss b f d o before.tuple after.tuple put.0 next put.1);
      }

  pub none-left : DifferInSlot ss → OccurIn ss b → found ≡ false → left_after p w e ss b f before.tuple ≡ []
  none-left d o h = no-more p w e ss b f d o before.tuple after.tuple (s.next e reads) (s.done h)

  -- the variables alone have other values than under e
  pub still-others : AgreeElsewhere ss (assignment_in old) e → (now : List (Option Value)) → now ≡ new →
      AgreeElsewhere ss (assignment_in now) e
  still-others others now k u = ap (λ (v : List (Option Value)). bind ss u (assignment_in v)) k ∙ (s.elsewhere u ∙ others u)
