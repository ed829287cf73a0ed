-- Effects for each of some tuples, each read under a frame that agrees with the first one.
use Rattle.std.proofs.Common.{◌≡◌, List, [], ◌∷◌, Bool, true, false, Ok, refl, sym, ap, ◌∙◌, subst}
use Rattle.std.specs.List.{list_all}
use Rattle.tl_action.specs.declared.changes.Changes.{Changes}
use Rattle.tl_eval.specs.declared.fault.EvalFault.{EvalFault}
use Rattle.tl_action.specs.Agreement.{EachReads, EachLeaves}
use Rattle.tl_eval.specs.Faults.{IsCausedBy}
use Rattle.tl_action.specs.Collected.{HasMore}
use Rattle.tl_action.proofs.Agreement.{EffectsAgree}
use Rattle.tl_action.proofs.EffectParts.{CollectsAll, instances_for, looked_for, tuple-agrees}
use Rattle.tl_action.proofs.Passed.{Passed, passed-begun, passed-on, passed-undefined, passed-fault, passed-end}
use Rattle.tl_syntax.specs.declared.value.Value.{Value}
use Rattle.tl_syntax.specs.declared.variable.Var.{Var}
use Rattle.tl_syntax.specs.Assignment.{Assignment, bind}
use Rattle.tl_syntax.specs.Effects.{EffectTrees}
use Rattle.tl_syntax.specs.Signature.{Signature}
use Rattle.tl_terms.specs.Definitions.{situation_of}
use Rattle.tl_terms.specs.Looked.{looked_in_effects, looks_of}
use Rattle.tl_terms.specs.Operations.{Operation}
use Rattle.tl_terms.specs.Problem.{PlainProblem}
use Rattle.tl_terms.specs.Step.{EffectInstance, is_defined, all_instances}
use Rattle.tl_terms.specs.World.{World}

-- the changes so far are those for all tuples but some
pub record TuplesPassed (p : PlainProblem) (w : World) (e : Assignment) (ss : List Var) (xs : EffectTrees) (all rest : List (List Value))
    (before now : Changes) : Type 0 where
  pub passed : Passed (instances_for p w e ss xs all) (looked_for p w e ss xs all) (instances_for p w e ss xs rest)
      (looked_for p w e ss xs rest) before now

pub tuples-begun : (p : PlainProblem) (w : World) (e : Assignment) (ss : List Var) (xs : EffectTrees) (all rest : List (List Value))
    (before : Changes) → rest ≡ all → TuplesPassed p w e ss xs all rest before before
tuples-begun p w e ss xs all rest before q = record {
  passed = passed-begun _ _ _ _ before (ap (instances_for p w e ss xs) (sym q))
      (ap (looked_for p w e ss xs) (sym q));
}

module _ (g : Signature) (p : PlainProblem) (w : World) (e : Assignment) (ss : List Var) (xs : EffectTrees)
    (all rest others : List (List Value)) (t : List Value) (k : rest ≡ t ∷ others) (before now : Changes)
    (h : TuplesPassed p w e ss xs all rest before now) (r : EachReads g ss xs) (d c : Assignment) (q : d ≡ bind ss t c)
    (f : EachLeaves g ss xs e c) where
  opened : TuplesPassed p w e ss xs all (t ∷ others) before now
  opened = subst (λ (ts : List (List Value)). TuplesPassed p w e ss xs all ts before now) k h

  same : EffectsAgree (looks_of p w) (situation_of p w) d (bind ss t e) xs
  same = tuple-agrees g p w ss xs t d c e r q f

  pub tuple-on : (then : Changes) (b : Bool) → b ≡ true → CollectsAll p w d xs now then (Ok b) →
      TuplesPassed p w e ss xs all others before then
  tuple-on then b z a =
      let l : HasMore (all_instances (situation_of p w) d xs) now then = subst (λ (t : Bool). CollectsAll p w d xs now then (Ok t)) z a in
      record {
        passed = passed-on (instances_for p w e ss xs all) (instances_for p w e ss xs (t ∷ others))
            (all_instances (situation_of p w) (bind ss t e) xs) (instances_for p w e ss xs others) (looked_for p w e ss xs all)
            (looked_for p w e ss xs (t ∷ others)) (looked_in_effects (looks_of p w) (situation_of p w) (bind ss t e) xs)
            (looked_for p w e ss xs others) before now refl refl opened.passed then
            (subst (λ (cs : List EffectInstance). HasMore cs now then) same.instances l);
      }

  pub tuple-undefined : (then : Changes) (b : Bool) → b ≡ false → CollectsAll p w d xs now then (Ok b) →
      list_all is_defined (instances_for p w e ss xs all) ≡ false
  tuple-undefined then b z a =
      let l : list_all is_defined (all_instances (situation_of p w) d xs) ≡ false =
      subst (λ (t : Bool). CollectsAll p w d xs now then (Ok t)) z a in
      passed-undefined (instances_for p w e ss xs all) (instances_for p w e ss xs (t ∷ others))
      (all_instances (situation_of p w) (bind ss t e) xs) (instances_for p w e ss xs others) (looked_for p w e ss xs all)
      (looked_for p w e ss xs (t ∷ others)) (looked_in_effects (looks_of p w) (situation_of p w) (bind ss t e) xs)
      (looked_for p w e ss xs others) before now refl refl opened.passed (ap (list_all is_defined) (sym same.instances) ∙ l)

  pub tuple-fault : (a : EvalFault) → IsCausedBy (looked_in_effects (looks_of p w) (situation_of p w) d xs) a →
      IsCausedBy (looked_for p w e ss xs all) a
  tuple-fault a l =
      passed-fault (instances_for p w e ss xs all) (instances_for p w e ss xs (t ∷ others))
      (all_instances (situation_of p w) (bind ss t e) xs) (instances_for p w e ss xs others) (looked_for p w e ss xs all)
      (looked_for p w e ss xs (t ∷ others)) (looked_in_effects (looks_of p w) (situation_of p w) (bind ss t e) xs)
      (looked_for p w e ss xs others) before now refl refl opened.passed a
      (subst (λ (ls : List Operation). IsCausedBy ls a) same.looked l)

-- all were passed
pub tuples-all : (p : PlainProblem) (w : World) (e : Assignment) (ss : List Var) (xs : EffectTrees) (all rest : List (List Value))
    (before now : Changes) → rest ≡ [] → TuplesPassed p w e ss xs all rest before now → HasMore (instances_for p w e ss xs all) before now
tuples-all p w e ss xs all rest before now q h =
    passed-end (instances_for p w e ss xs all) (instances_for p w e ss xs rest) (looked_for p w e ss xs all)
    (looked_for p w e ss xs rest) before now (ap (instances_for p w e ss xs) q) h.passed
