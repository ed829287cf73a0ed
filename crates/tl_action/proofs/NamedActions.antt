-- The values of actions are those of worlds.
use Rattle.std.proofs.Common.{◌≡◌, ℕ, zero, suc, List, [], ◌∷◌, map, length, slice_get, true, false, true≢false, ◌==◌, ◌||◌, Some, None}
use Rattle.std.proofs.Common.{is_some, IsTrue, refl, sym, ap, ◌∙◌, subst, eqb-true}
use Rattle.std.specs.List.{list_any}
use Rattle.tl_action.specs.Join.{row_assignment, variables, IsFound}
use Rattle.tl_action.specs.Actions.{ArgumentsAreNamed}
use Rattle.tl_action.proofs.ActionLists.{ActionsSoFar, step-operator, step-found}
use Rattle.tl_action.proofs.Operators.{counted-differ}
use Rattle.tl_action.proofs.Rows.{values-of-row, prepend-parts}
use Rattle.tl_syntax.specs.declared.action.Action.{Action}
use Rattle.tl_syntax.specs.declared.bound.Bound.{Bound}
use Rattle.tl_syntax.specs.declared.bound.Bound.TheVariants as bound
use Rattle.tl_syntax.specs.declared.operator.Operator.{Operator}
use Rattle.tl_syntax.specs.declared.problem.Problem.{Problem}
use Rattle.tl_syntax.specs.declared.value.Value.{Value}
use Rattle.tl_syntax.specs.declared.variable.Arg.{Arg}
use Rattle.tl_syntax.specs.declared.variable.Arg.TheVariants as arg
use Rattle.tl_syntax.specs.declared.variable.Var.{Var}
use Rattle.tl_syntax.specs.Assignment.{Assignment, no_values}
use Rattle.tl_syntax.specs.BoundVariables.{is_that_variable, stands_in}
use Rattle.tl_syntax.specs.Kept.{OperatorKeeps}
use Rattle.tl_syntax.specs.Lists.{Each}
use Rattle.tl_syntax.specs.Named.{ValueIsNamed}
use Rattle.tl_syntax.specs.Signature.{signature_of}
use Rattle.tl_syntax.proofs.ListLaws.{one_out, One-certain, Each-Among}
use Rattle.tl_terms.specs.Bounds.{arg_value, arg_values, fact_in, same_value, bound_true}
use Rattle.tl_terms.specs.Definitions.{situation_of}
use Rattle.tl_terms.specs.NamedWorlds.{WorldIsNamed}
use Rattle.tl_terms.specs.Problem.{PlainOperator}
use Rattle.tl_terms.specs.ProblemMeaning.{plain_operator, plain_problem}
use Rattle.tl_terms.specs.Situation.{Situation}
use Rattle.tl_terms.specs.Step.{step}
use Rattle.tl_terms.specs.Terms.{prepend, place_value, term_values}
use Rattle.tl_terms.specs.World.{World, value_at}
use Rattle.tl_terms.proofs.KeyLaws.{value-is}
use Rattle.tl_terms.proofs.NamedWorlds.{goal-named, avoid-named}

-- ---- variables of a true bound

-- the variable has a value, which is named
abbrev Has : ℕ → Assignment → Var → Type 0
Has n e s = (v : Value) × (e s.slot ≡ Some v) × ValueIsNamed n v

args-named : (n : ℕ) (e : Assignment) (xs : List Arg) (vs : List Value) (s : Var) → arg_values e xs ≡ Some vs → Each (ValueIsNamed n) vs →
    list_any (is_that_variable s) xs ≡ true → Has n e s
args-named n e [] vs s q h k = absurd (true≢false (sym k))
args-named n e (arg.Val v ∷ xs) vs s q h k =
    let parts = prepend-parts (Some v) (arg_values e xs) vs q in
    args-named n e xs parts.1 s parts.3 (subst (Each (ValueIsNamed n)) parts.4 h).1 k
args-named n e (arg.Var u ∷ xs) vs s q h k =
    let parts = prepend-parts (e u.slot) (arg_values e xs) vs q in
    let named = subst (Each (ValueIsNamed n)) parts.4 h in
    (elim (u.slot == s.slot) as (λ b. (u.slot == s.slot) ≡ b → (b || list_any (is_that_variable s) xs) ≡ true → Has n e s) [
      | true ↦ λ z m. (parts.0, ap e (sym (eqb-true u.slot s.slot z)) ∙ parts.2, named.0)
      | false ↦ λ z m. args-named n e xs parts.1 s parts.3 named.1 m
    ]) refl k

fact-named : (n : ℕ) (w : World) (p : ℕ) (e : Assignment) (xs : List Arg) (s : Var) → WorldIsNamed n w → fact_in w p (arg_values e xs) ≡
    true → list_any (is_that_variable s) xs ≡ true → Has n e s
fact-named n w p e xs s h t k = (elim (arg_values e xs) as (λ o. arg_values e xs ≡ o → fact_in w p o ≡ true → Has n e s) [
  | None ↦ λ q m. absurd (true≢false (sym m))
  | Some vs ↦ λ q m. args-named n e xs vs s q (h.facts (p, vs) m) k
]) refl t

same-named : (n : ℕ) (w : World) (f : ℕ) (e : Assignment) (xs : List Arg) (x : Arg) (vs : List Value) (s : Var) → WorldIsNamed n w →
    arg_values e xs ≡ Some vs → same_value (value_at w (f, vs)) (arg_value e x) ≡ true → list_any (is_that_variable s) (x ∷ xs) ≡ true →
    Has n e s
same-named n w f e xs x vs s h q t k = (elim (value_at w (f, vs)) as (λ o. value_at w (f, vs) ≡ o → same_value o (arg_value e x) ≡ true →
    Has n e s) [
      | None ↦ λ a m. absurd (true≢false (sym m))
      | Some u ↦ λ a m. (elim (arg_value e x) as (λ r. arg_value e x ≡ r → same_value (Some u) r ≡ true → Has n e s) [
        | None ↦ λ b l. absurd (true≢false (sym l))
        | Some v ↦ λ b l.
            let named = h.places (f, vs) u a in
            args-named n e (x ∷ xs) (v ∷ vs) s (λ i. prepend (b i) (q i)) (subst (ValueIsNamed n) (value-is u v l) named.1, named.0) k
      ]) refl m
    ]) refl t

place-named : (n : ℕ) (w : World) (f : ℕ) (e : Assignment) (xs : List Arg) (x : Arg) (s : Var) → WorldIsNamed n w →
    same_value (place_value w f (arg_values e xs)) (arg_value e x) ≡ true → list_any (is_that_variable s) (x ∷ xs) ≡ true → Has n e s
place-named n w f e xs x s h t k = (elim (arg_values e xs) as (λ o. arg_values e xs ≡ o → same_value (place_value w f o) (arg_value e x) ≡
    true → Has n e s) [
      | None ↦ λ q m. absurd (true≢false (sym m))
      | Some vs ↦ λ q m. same-named n w f e xs x vs s h q m k
    ]) refl t

pub bound-named : (n : ℕ) (c : Situation) (e : Assignment) (b : Bound) (s : Var) → WorldIsNamed n c.world → WorldIsNamed n c.goal →
    WorldIsNamed n c.avoid → bound_true c e b ≡ true → stands_in s b ≡ true → Has n e s
unfolding bound_true
bound-named n c e (bound.Fact p xs) s w g a t k = fact-named n c.world p e xs s w t k
bound-named n c e (bound.Place f xs x) s w g a t k = place-named n c.world f e xs x s w t k
bound-named n c e (bound.GoalFact p xs) s w g a t k = fact-named n c.goal p e xs s g t k
bound-named n c e (bound.GoalPlace f xs x) s w g a t k = place-named n c.goal f e xs x s g t k
bound-named n c e (bound.GoalNot p xs) s w g a t k = fact-named n c.avoid p e xs s a t k

-- ---- the values of a row

row-named : (n : ℕ) (w : World) (e : Assignment) (ss : List Var) (t : List Value) → term_values w e (variables ss) ≡ Some t →
    Each (Has n e) ss → Each (ValueIsNamed n) t
unfolding term_values
row-named n w e [] t q h = let k : [] ≡ t = cc in subst (Each (ValueIsNamed n)) k tt
row-named n w e (s ∷ ss) t q h =
    let parts = prepend-parts (e s.slot) (term_values w e (variables ss)) t q in
    let same : Some h.0.0 ≡ Some parts.0 = sym h.0.1 ∙ parts.2 in
    let first : h.0.0 ≡ parts.0 = cc in
    subst (Each (ValueIsNamed n)) (sym parts.4) (subst (ValueIsNamed n) first h.0.2, row-named n w e ss parts.1 parts.3 h.1)

itself : (e : Assignment) (ss : List Var) → Each (λ s. e s.slot ≡ e s.slot) ss
itself e [] = tt
itself e (s ∷ ss) = (refl, itself e ss)

module _ (problem : Problem) (w : World) (named : WorldIsNamed (length problem.names) w) where
  abbrev count : ℕ
  count = length problem.names

  holds-named : (e : Assignment) (b : Bound) (s : Var) → bound_true (situation_of (plain_problem problem) w) e b ≡ true → stands_in s b ≡
      true → Has count e s
  unfolding situation_of
  holds-named e b s t k = bound-named count (situation_of (plain_problem problem) w) e b s named (goal-named problem)
      (avoid-named problem) t k

  found-named : (o : Operator) (d : Assignment) (t : List Value) → OperatorKeeps (signature_of problem.domain) count o →
      IsFound (plain_problem problem) w (plain_operator o) [] o.bounds d t → Each (ValueIsNamed count) t
  found-named o d t keeps h =
      let e = row_assignment (plain_operator o) t in
      row-named count w e o.params t (values-of-row w e no_values o.params t
      (counted-differ o.params keeps.params.counted) h.completes.arity (itself e o.params))
      ((Each-Among (Has count e) o.params).1 (λ s m.
      let some = (Each-Among (λ (x : Var). IsTrue (list_any (stands_in x) o.bounds)) o.params).0 keeps.bounded s m in
      let b = one_out (λ x. stands_in s x ≡ true) o.bounds (One-certain (λ x. stands_in s x ≡ true) (stands_in s) (λ x q. q) o.bounds some)
      in
      holds-named e b.0 s ((Each-Among (λ x. bound_true (situation_of (plain_problem problem) w) e x ≡ true) o.bounds).0 h.completes.bounds
      b.0 b.1.0) b.1.1))

  operator-of : (os : List Operator) (i : ℕ) (x : PlainOperator) → Each (OperatorKeeps (signature_of problem.domain) count) os →
      slice_get (map plain_operator os) i ≡ Some x → (o : Operator) × OperatorKeeps (signature_of problem.domain) count o ×
      (plain_operator o ≡ x)
  operator-of [] i x k q = absurd (let z : ⊥ = cc in z)
  operator-of (o ∷ os) zero x k q = (o, k.0, (let e : plain_operator o ≡ x = cc in e))
  operator-of (o ∷ os) (suc i) x k q = operator-of os i x k.1 q

  pub action-named : (a : Action) → is_some (step (plain_problem problem) w a) ≡ true → ArgumentsAreNamed count a
  unfolding plain_problem
  action-named a h =
      let there = step-operator (plain_problem problem) w a h in
      let o = operator-of problem.domain.operators a.op there.0 problem.domain_keeps.operators there.1 in
      let found = step-found (plain_problem problem) w (plain_operator o.0) a.op
      (there.1 ∙ ap (λ (x : PlainOperator). Some x) (sym o.2)) no_values a.args h in
      found-named o.0 no_values a.args o.1 found

  pub actions-named : (k : ℕ) (found : List Action) → ActionsSoFar (plain_problem problem) w k found → Each (ArgumentsAreNamed count) found
  actions-named k found h = (Each-Among (ArgumentsAreNamed count) found).1 (λ a m. action-named a ((h.all a).0 m).1)
