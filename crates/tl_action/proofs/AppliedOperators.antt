-- The step of an action by its operator.
use Rattle.std.proofs.Common.{◌≡◌, ◌<◌, ◌==◌, ◌&&◌, ◌++◌, ℕ, zero, suc, List, [], ◌∷◌, map, flat_map, length, slice_get, get_or, cond, Bool}
use Rattle.std.proofs.Common.{true, false, true≢false, Option, Some, None, is_some, Result, Ok, Err, IfOk, IfErr, refl, sym, ap, ◌∙◌, subst}
use Rattle.std.proofs.Common.{arith}
use Rattle.std.proofs.lemmas.Bool.{eq-eqb}
use Rattle.std.proofs.lemmas.List.{length-map}
use Rattle.std.specs.List.{list_all}
use Rattle.tl_action.specs.declared.changes.Changes.{Changes}
use Rattle.tl_eval.specs.declared.fault.EvalFault.{EvalFault}
use Rattle.tl_action.specs.Actions.{HasOperator}
use Rattle.tl_action.specs.Agreement.{Agree}
use Rattle.tl_eval.specs.Faults.{IsCausedBy}
use Rattle.tl_action.specs.ChangedWorlds.{AreChangesOf, world_after}
use Rattle.tl_action.specs.Collected.{no_changes, HasMore, Collects}
use Rattle.tl_action.specs.Prepared.{instances_of, is_prepared, looked_prepared, CollectsWhole, Prepares}
use Rattle.tl_action.proofs.Operators.{OperatorAgrees, operator-agrees}
use Rattle.tl_action.proofs.Passed.{caused-more}
use Rattle.tl_action.proofs.Walks.{each-item}
use Rattle.tl_eval.specs.Notes.{Tells, operation_of}
use Rattle.tl_eval.specs.declared.range.RangeNote.{RangeNote}
use Rattle.tl_eval.proofs.TermLaws.{among-left, among-right}
use Rattle.tl_syntax.specs.declared.action.Action.{Action}
use Rattle.tl_syntax.specs.declared.operator.Operator.{Operator}
use Rattle.tl_syntax.specs.declared.problem.Problem.{Problem}
use Rattle.tl_syntax.specs.Assignment.{Assignment, bind, no_values}
use Rattle.tl_syntax.specs.FreeVariables.{slots_of}
use Rattle.tl_syntax.specs.Kept.{OperatorKeeps}
use Rattle.tl_syntax.specs.Keys.{fact_key, place_entry, no_clash}
use Rattle.tl_syntax.specs.Signature.{signature_of}
use Rattle.tl_terms.specs.Bounds.{bound_true}
use Rattle.tl_terms.specs.Definitions.{situation_of}
use Rattle.tl_terms.specs.Looked.{followed_if, looked_in_state, looked_in_effects, looks_of, looked_by_operator, looked_by_operator_if}
use Rattle.tl_terms.specs.Looked.{looked_by_action}
use Rattle.tl_terms.specs.Operations.{Operation}
use Rattle.tl_terms.specs.Problem.{PlainOperator, PlainProblem}
use Rattle.tl_terms.specs.ProblemMeaning.{plain_operator, plain_problem}
use Rattle.tl_terms.specs.Step.{EffectInstance, is_defined, given, with_all, without_all, overwritten, changed, applied, applied_if, step}
use Rattle.tl_terms.specs.Truth.{state_true}
use Rattle.tl_terms.specs.World.{World}

-- ---- the operator of an action

-- the action's operator, as the problem keeps it
pub record OperatorAt (problem : Problem) (a : Action) (o : Operator) : Type 0 where
  pub there : slice_get (plain_problem problem).operators a.op ≡ Some (plain_operator o)
  pub arity : length a.args ≡ length o.params
  pub keeps : OperatorKeeps (signature_of problem.domain) (length problem.names) o

found-below : (os : List Operator) (i n : ℕ) → slice_get (map (λ x. length x.params) (map plain_operator os)) i ≡ Some n → i < length os
found-below [] i n q = absurd (let z : ⊥ = cc in z)
found-below (o ∷ os) zero n q = omega arith
found-below (o ∷ os) (suc i) n q = let k = found-below os i n q in omega arith

found-arity : (os : List Operator) (i n : ℕ) (o : Operator) → slice_get (map (λ x. length x.params) (map plain_operator os)) i ≡ Some n →
    n ≡ length (get_or os i o).params
found-arity [] i n o q = absurd (let z : ⊥ = cc in z)
found-arity (x ∷ os) zero n o q = let e : length x.params ≡ n = cc in sym e
found-arity (x ∷ os) (suc i) n o q = found-arity os i n o q

found-there : (os : List Operator) (i : ℕ) (o : Operator) → i < length os → slice_get (map plain_operator os) i ≡
    Some (plain_operator (get_or os i o))
found-there [] i o h = absurd (omega arith)
found-there (x ∷ os) zero o h = refl
found-there (x ∷ os) (suc i) o h = found-there os i o (omega arith)

pub operator-below : (problem : Problem) (a : Action) → HasOperator (plain_problem problem) a → a.op < length problem.domain.operators
unfolding plain_problem
operator-below problem a h = found-below problem.domain.operators a.op (length a.args) h

pub operator-at : (problem : Problem) (a : Action) (os : List Operator) (o : Operator) → os ≡ problem.domain.operators → o ≡
    get_or os a.op o → HasOperator (plain_problem problem) a → OperatorAt problem a o
unfolding plain_problem
operator-at problem a os o q k h =
    let below = found-below problem.domain.operators a.op (length a.args) h in
    let is : o ≡ get_or problem.domain.operators a.op o = k ∙ ap (λ (xs : List Operator). get_or xs a.op o) q in
    record {
      there = found-there problem.domain.operators a.op o below ∙ ap (λ (x : Operator). Some (plain_operator x)) (sym is);
      arity = found-arity problem.domain.operators a.op (length a.args) o h ∙ ap (λ (x : Operator). length x.params) (sym is);
      keeps = each-item (OperatorKeeps (signature_of problem.domain) (length problem.names)) problem.domain.operators a.op o
          problem.domain_keeps.operators below is;
    }

-- the operator at a position
pub operator-there : (problem : Problem) (k : ℕ) (o : Operator) → k < length problem.domain.operators → o ≡
    get_or problem.domain.operators k o → slice_get (plain_problem problem).operators k ≡ Some (plain_operator o)
unfolding plain_problem
operator-there problem k o h q = found-there problem.domain.operators k o h ∙ ap (λ (x : Operator). Some (plain_operator x)) (sym q)

pub operator-keeps : (problem : Problem) (k : ℕ) (o : Operator) → k < length problem.domain.operators → o ≡
    get_or problem.domain.operators k o → OperatorKeeps (signature_of problem.domain) (length problem.names) o
operator-keeps problem k o h q = each-item (OperatorKeeps (signature_of problem.domain) (length problem.names)) problem.domain.operators k o
    problem.domain_keeps.operators h q

pub operators-count : (problem : Problem) → length (plain_problem problem).operators ≡ length problem.domain.operators
unfolding plain_problem
operators-count problem = length-map problem.domain.operators plain_operator

-- ---- what was prepared

both-true : (a b : Bool) → a ≡ true → b ≡ true → (a && b) ≡ true
both-true true b p q = q
both-true false b p q = p

pub prepares-collected : (p : PlainProblem) (w : World) (e : Assignment) (o : PlainOperator) (r : Result (Option Changes) EvalFault) →
    true ≡ state_true (situation_of p w) e o.pre → CollectsWhole p w e o r → Prepares p w e o r
prepares-collected p w e o (Ok (Some x)) t h = (both-true _ _ (sym t) (both-true _ _ h.1.defined h.0), h.1)
prepares-collected p w e o (Ok None) t h = ap (λ (b : Bool). b && (list_all is_defined (instances_of p w e o) && no_clash
    (flat_map given (instances_of p w e o)))) (sym t) ∙ h
prepares-collected p w e o (Err x) t h =
    let pre = looked_in_state (looks_of p w) (situation_of p w) e o.pre in
    let effects = looked_in_effects (looks_of p w) (situation_of p w) e o.effects in
    subst (λ (b : Bool). IsCausedBy (followed_if b pre effects) x) t (caused-more effects (pre ++ effects) x
    (λ y. among-right y pre effects) h)

pub condition-noted : (p : PlainProblem) (w : World) (e : Assignment) (o : PlainOperator) (n : RangeNote) →
    Tells (looked_in_state (looks_of p w) (situation_of p w) e o.pre) n → Tells (looked_prepared p w e o) n
condition-noted p w e o n h = (
  among-left (operation_of n) (looked_in_state (looks_of p w) (situation_of p w) e o.pre)
      (cond (state_true (situation_of p w) e o.pre) (looked_in_effects (looks_of p w) (situation_of p w) e o.effects) []) h.0,
  h.1,
)

-- ---- the step

same-length : (n m : ℕ) → n ≡ m → (n == m) ≡ true
same-length n m q = eq-eqb n m q

module _ (p : PlainProblem) (w : World) (a : Action) (o : PlainOperator) (there : slice_get p.operators a.op ≡ Some o)
    (arity : length a.args ≡ length o.params) where
  abbrev pub arguments : Assignment
  arguments = bind o.params a.args no_values

  pub step-is : step p w a ≡ cond (list_all (bound_true (situation_of p w) arguments) o.bounds && is_prepared p w arguments o)
      (Some (changed w (instances_of p w arguments o))) None
  unfolding step applied
  step-is =
      ap (applied_if p w a.args) there
      ∙ ap (λ (b : Bool). cond (b && (list_all (bound_true (situation_of p w) arguments) o.bounds && is_prepared p w arguments o))
      (Some (changed w (instances_of p w arguments o))) None) (same-length (length a.args) (length o.params) arity)

  pub looked-is : looked_by_action p w a ≡ cond (list_all (bound_true (situation_of p w) arguments) o.bounds)
      (looked_prepared p w arguments o) []
  unfolding looked_by_action looked_by_operator
  looked-is =
      ap (looked_by_operator_if p w a.args) there
      ∙ ap (λ (b : Bool). cond (b && list_all (bound_true (situation_of p w) arguments) o.bounds) (looked_prepared p w arguments o) [])
      (same-length (length a.args) (length o.params) arity)

and-false : (a : Bool) → (a && false) ≡ false
and-false true = refl
and-false false = refl

-- under a frame in which the parameters have the action's arguments
module _ (problem : Problem) (w : World) (a : Action) (o : Operator) (at : OperatorAt problem a o) (d : Assignment)
    (agrees : Agree (slots_of o.params) d (bind o.params a.args no_values)) where
  abbrev pub meaning : PlainProblem
  meaning = plain_problem problem

  abbrev pub values : Assignment
  values = bind o.params a.args no_values

  pub same : OperatorAgrees meaning w o d values
  same = operator-agrees (signature_of problem.domain) (length problem.names) meaning w o d values at.keeps agrees

  pub step-stopped : list_all (bound_true (situation_of meaning w) d) o.bounds ≡ false → let none : Option World = None in none ≡
      step meaning w a
  step-stopped h =
      sym (step-is meaning w a (plain_operator o) at.there at.arity
      ∙ ap (λ (b : Bool). cond (b && is_prepared meaning w values (plain_operator o))
      (Some (changed w (instances_of meaning w values (plain_operator o)))) None) (sym same.bounds ∙ h))

  pub step-unprepared : is_prepared meaning w d (plain_operator o) ≡ false → let none : Option World = None in none ≡ step meaning w a
  step-unprepared h =
      sym (step-is meaning w a (plain_operator o) at.there at.arity
      ∙ ap (λ (b : Bool). cond b (Some (changed w (instances_of meaning w values (plain_operator o)))) None)
      (ap (λ (b : Bool). list_all (bound_true (situation_of meaning w) values) o.bounds && b) (sym same.prepared ∙ h) ∙
      and-false (list_all (bound_true (situation_of meaning w) values) o.bounds)))

  step-some : list_all (bound_true (situation_of meaning w) d) o.bounds ≡ true → is_prepared meaning w d (plain_operator o) ≡ true →
      step meaning w a ≡ Some (changed w (instances_of meaning w d (plain_operator o)))
  step-some h k =
      step-is meaning w a (plain_operator o) at.there at.arity
      ∙ (ap (λ (b : Bool). cond b (Some (changed w (instances_of meaning w values (plain_operator o)))) None)
      (both-true _ _ (sym same.bounds ∙ h) (sym same.prepared ∙ k))
      ∙ ap (λ (cs : List EffectInstance). Some (changed w cs)) (sym same.instances))

  pub step-made : list_all (bound_true (situation_of meaning w) d) o.bounds ≡ true → (x : Changes) →
      (is_prepared meaning w d (plain_operator o) ≡ true) × HasMore (instances_of meaning w d (plain_operator o)) no_changes x →
      (next : World)
      → next.facts ≡ with_all (without_all w.facts (map fact_key x.dels)) (map fact_key x.adds) → next.places ≡
      overwritten w.places (map place_entry x.sets) → Some next ≡ step meaning w a
  unfolding changed
  step-made h x k next f s =
      let facts = f ∙ (λ i. with_all (without_all w.facts (k.1.dels i)) (k.1.adds i)) in
      let places = s ∙ ap (overwritten w.places) k.1.sets in
      let is : next ≡ changed w (instances_of meaning w d (plain_operator o)) = λ i. record { facts = facts i; places = places i } in
      ap (λ (v : World). Some v) is ∙ sym (step-some h k.0)

  pub step-caused : list_all (bound_true (situation_of meaning w) d) o.bounds ≡ true → (x : EvalFault) →
      IsCausedBy (looked_prepared meaning w d (plain_operator o)) x → IsCausedBy (looked_by_action meaning w a) x
  step-caused h x k =
      subst (λ (ls : List Operation). IsCausedBy ls x)
      (same.looked ∙ sym (looked-is meaning w a (plain_operator o) at.there at.arity ∙
      ap (λ (b : Bool). cond b (looked_prepared meaning w values (plain_operator o)) []) (sym same.bounds ∙ h))) k

  -- ---- whatever was prepared

  pub step-answered : list_all (bound_true (situation_of meaning w) d) o.bounds ≡ true → (r : Result (Option Changes) EvalFault) →
      Prepares meaning w d (plain_operator o) r → IfOk r (AreChangesOf meaning w a)
  unfolding world_after
  step-answered h (Ok (Some x)) k = step-made h x k (world_after w x) refl refl
  step-answered h (Ok None) k = sym (step-unprepared k)
  step-answered h (Err x) k = tt

  pub answer-caused : list_all (bound_true (situation_of meaning w) d) o.bounds ≡ true → (r : Result (Option Changes) EvalFault) →
      Prepares meaning w d (plain_operator o) r → IfErr r (IsCausedBy (looked_by_action meaning w a))
  answer-caused h (Ok x) k = tt
  answer-caused h (Err x) k = step-caused h x k

  -- ---- an action that is known to have a step

  some-of : {A : Type 0} (b : Bool) (x : A) → is_some (cond b (Some x) None) ≡ true → b ≡ true
  some-of true x h = refl
  some-of false x h = h

  both-of : (b c : Bool) → (b && c) ≡ true → (b ≡ true) × (c ≡ true)
  both-of true c h = (refl, h)
  both-of false c h = absurd (true≢false (sym h))

  tests-passed : is_some (step meaning w a) ≡ true → (list_all (bound_true (situation_of meaning w) d) o.bounds ≡ true) ×
      (is_prepared meaning w d (plain_operator o) ≡ true)
  tests-passed h =
      let k = both-of _ _ (some-of (list_all (bound_true (situation_of meaning w) values) o.bounds && is_prepared meaning w values
      (plain_operator o)) (changed w (instances_of meaning w values (plain_operator o)))
      (ap (λ (x : Option World). is_some x) (sym (step-is meaning w a (plain_operator o) at.there at.arity)) ∙ h)) in
      (same.bounds ∙ k.0, same.prepared ∙ k.1)

  -- its effects are defined
  all-collected : is_some (step meaning w a) ≡ true → (ls : List Operation) (x : Changes) (b : Bool) →
      Collects (instances_of meaning w d (plain_operator o)) ls no_changes x (Ok b) →
      HasMore (instances_of meaning w d (plain_operator o)) no_changes x
  all-collected h ls x true k = k
  all-collected h ls x false k =
      let pre = both-of (state_true (situation_of meaning w) d (plain_operator o).pre) _ (tests-passed h).1 in
      let effects = both-of (list_all is_defined (instances_of meaning w d (plain_operator o))) _ pre.1 in
      absurd (true≢false (sym effects.0 ∙ k))

  pub step-known : is_some (step meaning w a) ≡ true → (ls : List Operation) (x : Changes) (b : Bool) →
      Collects (instances_of meaning w d (plain_operator o)) ls no_changes x (Ok b) → (next : World)
      → next.facts ≡ with_all (without_all w.facts (map fact_key x.dels)) (map fact_key x.adds) → next.places ≡
      overwritten w.places (map place_entry x.sets) → Some next ≡ step meaning w a
  step-known h ls x b k next f s = let tests = tests-passed h in step-made tests.0 x (tests.1, all-collected h ls x b k) next f s

  pub effects-caused : is_some (step meaning w a) ≡ true → (x : EvalFault) →
      IsCausedBy (looked_in_effects (looks_of meaning w) (situation_of meaning w) d (plain_operator o).effects) x →
      IsCausedBy (looked_by_action meaning w a) x
  effects-caused h x k =
      let tests = tests-passed h in
      let pre = both-of (state_true (situation_of meaning w) d (plain_operator o).pre) _ tests.1 in
      step-caused tests.0 x (prepares-collected meaning w d (plain_operator o) (Err x) (sym pre.0) k)
