-- Worked examples with quantifiers and with a goal, which rest on laws.
use Rattle.std.proofs.Common.{◌≡◌, ◌↔◌, List, [], ◌∷◌, length, Bool, true, false, ◌||◌, true≢false, Ordering, Some, None, Less, Equal, refl}
use Rattle.std.proofs.Common.{sym, ap, subst, ◌∙◌, inl, inr, arith as numbers}
use Rattle.std.specs.Ordering.{eq_by_cmp}
use Rattle.std.specs.Cmp.{IsTotalOrder, tied_itself}
use Rattle.std.specs.Cmp.Lexicographic.{slice_cmp, lists_total}
use Rattle.tl_terms.specs.Acceptance.{meets_goal}
use Rattle.tl_syntax.specs.Assignment.{no_values, bind}
use Rattle.tl_terms.specs.Bounds.{bound_true, tuples}
use Rattle.tl_terms.specs.Examples.{world, nothing, alone, has_fact-world, value_at-world, same-other, on, only_on}
use Rattle.tl_syntax.specs.Lists.{Among, Rises}
use Rattle.tl_terms.specs.Progression.{progressed}
use Rattle.tl_terms.specs.Simplification.{and_parts, without_repeats, simplified_and}
use Rattle.tl_syntax.specs.Substitution.{substituted_term, substituted}
use Rattle.tl_syntax.proofs.TotalOrders.{value_total}
use Rattle.tl_syntax.specs.Trees.{variable, no_term, more_terms, FormulaTree, verum, falsum, atom, conjunction, for_all, for_some, next}
use Rattle.tl_syntax.specs.Trees.{always, formulas_of_list}
use Rattle.tl_terms.specs.Truth.{state_true}
use Rattle.tl_syntax.specs.Keys.{Key, value_cmp, key_cmp}
use Rattle.tl_terms.specs.World.{World, has_fact}
use Rattle.tl_terms.proofs.GoalLaws.{goal-by-membership}
use Rattle.tl_terms.proofs.KeyLaws.{key-is, key-itself}
use Rattle.tl_syntax.proofs.ListLaws.{iff-trans}
use Rattle.tl_terms.proofs.Tuples.{all-tuples}
use Rattle.tl_terms.proofs.TuplesRise.{tuples-rise}
use Rattle.tl_syntax.specs.declared.value.Value.{Value}
use Rattle.tl_syntax.specs.declared.variable.Var.{Var}
use Rattle.tl_syntax.specs.declared.bound.Bound.{Bound}
use Rattle.tl_syntax.specs.declared.value.Value.TheVariants.{Sym}
use Rattle.tl_syntax.specs.declared.variable.Arg.TheVariants as arg
use Rattle.tl_syntax.specs.declared.bound.Bound.TheVariants as bound

-- a list without members is empty
no_member : {A : Type 0} (xs : List A) → ((x : A) → Among x xs → ⊥) → xs ≡ []
no_member [] h = refl
no_member (x ∷ xs) h = absurd (h x (inl refl))

-- a rising list whose members are x alone is that of x
one_member : {A : Type 0} (R : A → A → Ordering) (o : IsTotalOrder R) (x : A) (xs : List A) → Rises R xs → Among x xs →
    ((y : A) → Among y xs → y ≡ x) → xs ≡ x ∷ []
one_member R o x [] r m only = absurd m
one_member R o x (y ∷ []) r m only = ap (λ z. z ∷ []) (only y (inl refl))
one_member R o x (y ∷ (z ∷ zs)) r m only =
    let a : y ≡ x = only y (inl refl) in
    let b : z ≡ x = only z (inr (inl refl)) in
    let less : R x x ≡ Less = subst (λ u. R u x ≡ Less) a (subst (λ u. R y u ≡ Less) b r.0.0) in
    let both : Less ≡ Equal = sym less ∙ tied_itself o x in absurd (let q : ⊥ = cc in q)

-- the variable of slot 0
abbrev x : Var
x = record { slot = 0; name = 0 }

-- the bound `(on ?x)`
abbrev on_x : Bound
on_x = bound.Fact 0 (arg.Var x ∷ [])

-- `on` of the variable
abbrev on_it : FormulaTree
on_it = atom 0 (more_terms (variable x) no_term)

-- the bound is true of one value exactly where the fact is in the world
of_one : (w : World) (t : List Value) → (length t ≡ 1) × (bound_true (alone w) (bind (x ∷ []) t no_values) on_x ≡ true) ↔
    ((v : Value) × (t ≡ v ∷ []) × (has_fact w (0, v ∷ []) ≡ true))
unfolding bound_true
of_one w [] = (λ h. absurd (let q : ⊥ = omega numbers in q), λ h. let q : ⊥ = cc in absurd q)
of_one w (v ∷ []) = (λ h. (v, refl, h.1), λ h. (refl, subst (λ u. has_fact w (0, u) ≡ true) (sym h.1) h.2))
of_one w (v ∷ (u ∷ t)) = (λ h. absurd (let q : ⊥ = omega numbers in q), λ h. let q : ⊥ = cc in absurd q)

tuples-of_one : (w : World) (t : List Value) → Among t (tuples (alone w) no_values (x ∷ []) on_x) ↔
    ((v : Value) × (t ≡ v ∷ []) × (has_fact w (0, v ∷ []) ≡ true))
tuples-of_one w t = iff-trans (all-tuples (alone w) no_values (x ∷ []) on_x (tt, tt) (refl, tt) t) (of_one w t)

-- in a world without facts the bound has no tuple
tuples-nothing : tuples (alone nothing) no_values (x ∷ []) on_x ≡ []
tuples-nothing = no_member (tuples (alone nothing) no_values (x ∷ []) on_x)
    (λ t m. let h = (tuples-of_one nothing t).0 m in true≢false (sym h.2 ∙ has_fact-world [] [] (0, h.0 ∷ [])))

-- `(forall (?x) (on ?x) false)` is true where nothing is on
forall_of_nothing : state_true (alone nothing) no_values (for_all (x ∷ []) on_x falsum) ≡ true
unfolding state_true
forall_of_nothing = rw tuples-nothing refl

-- `(exists (?x) (on ?x) true)` is false there
exists_of_nothing : state_true (alone nothing) no_values (for_some (x ∷ []) on_x verum) ≡ false
unfolding state_true
exists_of_nothing = rw tuples-nothing refl

-- where one thing is on, the bound has the one tuple
tuples-only_on : (n : Value) → tuples (alone (world ((0, n ∷ []) ∷ []) [])) no_values (x ∷ []) on_x ≡ (n ∷ []) ∷ []
tuples-only_on n =
    let w : World = world ((0, n ∷ []) ∷ []) [] in
    one_member (slice_cmp value_cmp) (lists_total value_total) (n ∷ []) (tuples (alone w) no_values (x ∷ []) on_x)
    (tuples-rise (alone w) no_values (x ∷ []) on_x)
    ((tuples-of_one w (n ∷ [])).1 (
      n,
      refl,
      has_fact-world ((0, n ∷ []) ∷ []) [] (0, n ∷ []) ∙
          ap (λ b. b || false) (key-itself (0, n ∷ []) (0, n ∷ []) refl),
    ))
    (λ t m. let h = (tuples-of_one w t).0 m in
    let same : (0, n ∷ []) ≡ (0, h.0 ∷ []) = key-is (0, h.0 ∷ []) (0, n ∷ [])
    (or-false (eq_by_cmp key_cmp (0, h.0 ∷ []) (0, n ∷ [])) (sym (has_fact-world ((0, n ∷ []) ∷ []) [] (0, h.0 ∷ [])) ∙ h.2)) in
    h.1 ∙ sym (ap (λ (k : Key). k.1) same))
  where
    or-false : (b : Bool) → (b || false) ≡ true → b ≡ true
    or-false true h = refl
    or-false false h = h

-- whatever is on has to be on in the next state too
abbrev stays_on : FormulaTree
stays_on = always (for_all (x ∷ []) on_x (next on_it))

-- `(always (forall (?x) (on ?x) (next (on ?x))))` where `a` is on progresses to `(and (on a) (always ..))`
stays_on_progresses : progressed (alone (only_on 0)) no_values stays_on ≡ conjunction (formulas_of_list (on 0 ∷ stays_on ∷ []))
unfolding progressed simplified_and and_parts without_repeats substituted substituted_term
stays_on_progresses = rw (tuples-only_on (Sym 0), same-other (on 0) stays_on (λ e. cc)) refl

-- a world in which a fact to avoid is true does not meet the goal
avoided_fact : meets_goal (only_on 0) nothing (only_on 0) ≡ true → ⊥
avoided_fact h = let on_a = has_fact-world ((0, Sym 0 ∷ []) ∷ []) [] (0, Sym 0 ∷ []) in
    ((goal-by-membership (only_on 0) nothing (only_on 0)).0 h).avoided (0, Sym 0 ∷ []) on_a on_a

-- the empty world meets a goal list that has that negated fact alone
nothing_avoids : meets_goal nothing nothing (only_on 0) ≡ true
nothing_avoids = (goal-by-membership nothing nothing (only_on 0)).1 (record {
  facts = λ k h. absurd (true≢false (sym h ∙ has_fact-world [] [] k));
  places = λ k v h. let q : None ≡ Some v = sym (value_at-world [] [] k) ∙ h in let z : ⊥ = cc in absurd z;
  avoided = λ k _ h. true≢false (sym h ∙ has_fact-world [] [] k);
})
