-- The instances of a quantifier, in tuple order.
use Rattle.std.proofs.Common.{◌≡◌, ◌<◌, suc, List, [], ◌∷◌, ◌++◌, flat_map, length, Bool, true, false, not, Option, Some, None, inl, inr}
use Rattle.std.proofs.Common.{refl, sym, ap, ◌∙◌, subst, arith}
use mathlib.Core.Bool.{beq}
use Rattle.tl_syntax.specs.declared.bound.Bound.{Bound}
use Rattle.tl_syntax.specs.declared.junction.Junction.{Junction}
use Rattle.tl_syntax.specs.declared.junction.Junction.TheVariants.{All, Any}
use Rattle.tl_syntax.specs.declared.problem.Problem.{Problem}
use Rattle.tl_syntax.specs.declared.value.Value.{Value}
use Rattle.tl_syntax.specs.declared.variable.Var.{Var}
use Rattle.tl_syntax.specs.Assignment.{Assignment, bind}
use Rattle.tl_syntax.specs.BoundVariables.{OccurIn, DifferInSlot}
use Rattle.tl_syntax.specs.Fits.{BoundFits, Fits, VariablesFit}
use Rattle.tl_syntax.specs.FreeVariables.{slots_of}
use Rattle.tl_syntax.specs.Junctions.{deciding_truth, quantified}
use Rattle.tl_syntax.specs.Lists.{Each, Among}
use Rattle.tl_syntax.specs.Signature.{Signature, signature_of}
use Rattle.tl_syntax.specs.Trees.{FormulaTree}
use Rattle.tl_syntax.proofs.ListLaws.{One-append, Among-filter}
use Rattle.tl_terms.specs.Bounds.{bound_true, tuples}
use Rattle.tl_terms.specs.Definitions.{situation_of}
use Rattle.tl_terms.specs.Idle.{idle_true}
use Rattle.tl_terms.specs.Looked.{LookedTable, looked_in_basics, looks_of}
use Rattle.tl_terms.specs.Operations.{Operation}
use Rattle.tl_terms.specs.Problem.{PlainProblem}
use Rattle.tl_terms.specs.World.{World}
use Rattle.tl_match.specs.Next.{IsNext}
use Rattle.tl_eval.proofs.ArityLaws.{declared-few}
use Rattle.tl_eval.proofs.PatternLaws.{few-variables, bound-few}
use Rattle.tl_eval.proofs.TupleRest.{rest_after, later, all-after-none, rest-none, rest-some}
use Rattle.tl_eval.specs.declared.fault.EvalFault.{EvalFault}
use Rattle.tl_eval.specs.declared.fault.EvalFault.TheVariants as fault
use Rattle.tl_progress.specs.Sentences.{FitsSomewhere}
use Rattle.tl_eval.specs.Faults.{IsCausedBy}
use Rattle.tl_progress.specs.Answers.{decided, looked_idly, idly_true}
use Rattle.tl_progress.proofs.Decided.{decided-on, decided-here, decided-end}

-- a quantifier that fits
pub record Quantifier (g : Signature) (ss : List Var) (b : Bound) (f : FormulaTree) : Type 0 where
  pub differ : DifferInSlot ss
  pub occur : OccurIn ss b
  pub bound : BoundFits g b
  pub few : length ss < 10
  pub in_frame : Each (λ s. s.slot < 32) ss
  pub part : FitsSomewhere g f

pub quantifier-fits : (q : Problem) (junction : Junction) (ss : List Var) (b : Bound) (f : FormulaTree) →
    FitsSomewhere (signature_of q.domain) (quantified junction ss b f) → Quantifier (signature_of q.domain) ss b f
unfolding Fits
quantifier-fits q junction ss b f h = made (by junction h.fits)
  where
    by : (s : Junction) → Fits (signature_of q.domain) h.around (quantified s ss b f) → VariablesFit (signature_of q.domain) h.around ss b ×
        Fits (signature_of q.domain) (slots_of ss ++ h.around) f
    by All x = x
    by Any x = x

    made : VariablesFit (signature_of q.domain) h.around ss b × Fits (signature_of q.domain) (slots_of ss ++ h.around) f →
        Quantifier (signature_of q.domain) ss b f
    made v =
        let few = few-variables ss b v.0.differ v.0.occur (bound-few (signature_of q.domain)
        (declared-few _ q.domain.predicates q.domain_keeps.predicates)
        (declared-few _ q.domain.functions q.domain_keeps.functions) b v.0.bound) in
        record {
          differ = v.0.differ;
          occur = v.0.occur;
          bound = v.0.bound;
          few = omega arith;
          in_frame = v.0.frame;
          part = record { around = slots_of ss ++ h.around; fits = v.1 };
        }

among-flat_map : {A B : Type 0} (h : A → List B) (xs : List A) (x : A) (y : B) → Among x xs → Among y (h x) → Among y (flat_map h xs)
among-flat_map h [] x y m k = absurd m
among-flat_map h (z ∷ xs) x y m k =
    (One-append (λ v. v ≡ y) (h z) (flat_map h xs)).1 (elim m [
      | inl e ↦ inl (subst (λ u. Among y (h u)) (sym e) k)
      | inr n ↦ inr
          (among-flat_map h xs x y n k)
    ])

module _ (p : PlainProblem) (w : World) (e : Assignment) (ss : List Var) (b : Bound) (f : FormulaTree) where
  -- its tuples
  abbrev pub all_tuples : List (List Value)
  all_tuples = tuples (situation_of p w) e ss b

  -- the truth of its instance
  abbrev pub instance_idle : List Value → Bool
  instance_idle t = idly_true p w (bind ss t e) f

  pub quantified-idle : (junction : Junction) (stop : Bool) → stop ≡ deciding_truth junction →
      idly_true p w e (quantified junction ss b f) ≡ decided stop instance_idle all_tuples
  unfolding idle_true
  quantified-idle All stop h = ap (λ b. decided b instance_idle all_tuples) (sym h)
  quantified-idle Any stop h = ap (λ b. decided b instance_idle all_tuples) (sym h)

  pub quantified-looked : (junction : Junction) (n : Bool) (d : LookedTable) (t : List Value) (o : Operation) → Among t all_tuples →
      Among o (looked_in_basics n d (situation_of p w ∷ []) (situation_of p w) (bind ss t e) f)
      → Among o (looked_in_basics n d (situation_of p w ∷ []) (situation_of p w) e (quantified junction ss b f))
  unfolding looked_in_basics
  quantified-looked junction n d t o m h = by junction (among-flat_map
      (λ u. looked_in_basics n d (situation_of p w ∷ []) (situation_of p w) (bind ss u e) f) (all_tuples ++ []) t o
      ((One-append (λ y. y ≡ t) all_tuples []).1 (inl m)) h)
    where
      by : (s : Junction) → Among o (flat_map (λ u. looked_in_basics n d (situation_of p w ∷ []) (situation_of p w) (bind ss u e) f)
          (all_tuples ++ [])) → Among o (looked_in_basics n d (situation_of p w ∷ []) (situation_of p w) e (quantified s ss b f))
      by All x = x
      by Any x = x

  -- the tuples that are left, after the given one
  abbrev pub left_after : Option (List Value) → List (List Value)
  left_after after = rest_after after all_tuples

  -- the tuples so far leave the truth open
  abbrev pub Open : Bool → Option (List Value) → Type 0
  Open stop after = decided stop instance_idle all_tuples ≡ decided stop instance_idle (left_after after)

  pub open-begun : (stop : Bool) → Open stop None
  open-begun stop = ap (decided stop instance_idle) (all-after-none all_tuples)

  module _ (d : DifferInSlot ss) (o : OccurIn ss b) (after : Option (List Value)) where
    pub no-more : (answer : Option (List Value)) → IsNext (length ss) (λ t. bound_true (situation_of p w) (bind ss t e) b) after answer →
        answer ≡ None → left_after after ≡ []
    no-more answer h k = rest-none (situation_of p w) e ss b d o after
        (subst (IsNext (length ss) (λ t. bound_true (situation_of p w) (bind ss t e) b) after) k h)

    pub open-end : (junction : Junction) (stop : Bool) → stop ≡ deciding_truth junction → Open stop after → left_after after ≡ [] →
        not stop ≡ idly_true p w e (quantified junction ss b f)
    open-end junction stop is was k = decided-end instance_idle stop ∙
        sym (quantified-idle junction stop is ∙ was ∙ ap (decided stop instance_idle) k)

    module _ (answer : Option (List Value)) (t : List Value) (h : IsNext (length ss)
        (λ u. bound_true (situation_of p w) (bind ss u e) b) after answer) (k : answer ≡ Some t) where
      pub one-more : left_after after ≡ t ∷ left_after (Some t)
      one-more = rest-some (situation_of p w) e ss b d o after t (subst
          (IsNext (length ss) (λ u. bound_true (situation_of p w) (bind ss u e) b) after) k h)

      pub fewer-left : length (left_after (Some t)) < length (left_after after)
      fewer-left = let size : length (left_after after) ≡ suc (length (left_after (Some t))) = ap length one-more in omega arith

      pub is-tuple : Among t all_tuples
      is-tuple = ((Among-filter (later after) t all_tuples).0 (subst (Among t) (sym one-more) (inl refl))).0

      pub open-on : (stop x : Bool) → Open stop after → x ≡ instance_idle t → beq x stop ≡ false → Open stop (Some t)
      open-on stop x was e k = was ∙ ap (decided stop instance_idle) one-more ∙ decided-on instance_idle t (left_after (Some t)) stop x e k

      pub open-here : (junction : Junction) (stop x : Bool) → stop ≡ deciding_truth junction → Open stop after → x ≡ instance_idle t →
          beq x stop ≡ true → stop ≡ idly_true p w e (quantified junction ss b f)
      open-here junction stop x is was e k = sym (quantified-idle junction stop is ∙ was ∙ ap (decided stop instance_idle) one-more ∙
          decided-here instance_idle t (left_after (Some t)) stop x e k)

      pub caused : (junction : Junction) (x : EvalFault) → IsCausedBy (looked_idly p w (bind ss t e) f) x →
          IsCausedBy (looked_idly p w e (quantified junction ss b f)) x
      caused junction (fault.Range m) h = (quantified-looked junction true (looks_of p w) t _ is-tuple h.0, h.1)
      caused junction fault.NoMemory h = tt
