-- A formula with values put in holds where it holds under them.
use Rattle.std.proofs.Common.{◌≡◌, ℕ, suc, ◌↔◌, List, [], ◌∷◌, filter, length, Bool, true, false, cond, ◌==◌, Option, Some, None, refl, ap}
use Rattle.std.proofs.Common.{ap₂, ◌∙◌, inl, inr}
use mathlib.Core.Path.{fun_ext}
use Rattle.tl_syntax.specs.Assignment.{Assignment, no_values, bind}
use Rattle.tl_terms.specs.Bounds.{arg_value, arg_values, fact_in, same_value, bound_true, tuples_of, tuples}
use Rattle.tl_syntax.specs.Lists.{Each, AtLeastOne}
use Rattle.tl_terms.specs.Run.{Situations, Holds, HoldAll, HoldsOne}
use Rattle.tl_terms.specs.Situation.{Situation}
use Rattle.tl_syntax.specs.Substitution.{or_else, over, without, value_or_arg, substituted_arg, substituted_args, substituted_bound}
use Rattle.tl_syntax.specs.Substitution.{value_or_term, substituted_term, substituted_terms, substituted, substituted_all}
use Rattle.tl_terms.specs.Terms.{apply_op, prepend, place_value, term_value, term_values}
use Rattle.tl_syntax.specs.Trees.{TermTree, variable, value, place, arith, TermTrees, no_term, more_terms, FormulaTree, verum, falsum, atom}
use Rattle.tl_syntax.specs.Trees.{defined, compare, goal_fact, goal_place, goal_not, negation, conjunction, disjunction, for_all, for_some}
use Rattle.tl_syntax.specs.Trees.{next, always, eventually, until, within, during, FormulaTrees, no_formula, more_formulas}
use Rattle.tl_terms.specs.Truth.{defined_true, compared, state_true}
use Rattle.tl_terms.specs.World.{World, values_of}
use Rattle.tl_syntax.proofs.ListLaws.{iff-trans, iff-path, Each-map, One-map}
use Rattle.tl_syntax.specs.declared.value.Value.{Value}
use Rattle.tl_syntax.specs.declared.variable.Var.{Var}
use Rattle.tl_syntax.specs.declared.variable.Arg.{Arg}
use Rattle.tl_syntax.specs.declared.bound.Bound.{Bound}
use Rattle.tl_syntax.specs.declared.variable.Arg.TheVariants as arg
use Rattle.tl_syntax.specs.declared.bound.Bound.TheVariants as bound

abbrev pub IsBasic : FormulaTree → Type 0
IsBasic (atom p ts) = Unit {0}
IsBasic (defined p ts) = Unit {0}
IsBasic (compare c x y) = Unit {0}
IsBasic (goal_fact p xs) = Unit {0}
IsBasic (goal_place f xs x) = Unit {0}
IsBasic (goal_not p xs) = Unit {0}
IsBasic f = ⊥

pub over-no_values : (e : Assignment) → over e no_values ≡ e
over-no_values e = fun_ext (λ q. keep (e q))
  where
    keep : (o : Option Value) → or_else o None ≡ o
    keep None = refl
    keep (Some v) = refl

bind-over-at : (ss : List Var) (t : List Value) (e d : Assignment) (q : ℕ) → over (without ss e) (bind ss t d) q ≡ bind ss t (over e d) q
bind-over-at [] t e d q = refl
bind-over-at (s ∷ ss) [] e d q =
    (elim (q == s.slot) as (λ b. or_else (cond b None (without ss e q)) (cond b None (bind ss [] d q)) ≡
    cond b None (bind ss [] (over e d) q)) [
      | true ↦ refl
      | false ↦ bind-over-at ss [] e d q
    ])
bind-over-at (s ∷ ss) (v ∷ t) e d q =
    (elim (q == s.slot) as (λ b. or_else (cond b None (without ss e q)) (cond b (Some v) (bind ss t d q)) ≡
    cond b (Some v) (bind ss t (over e d) q)) [
      | true ↦ refl
      | false ↦ bind-over-at ss t e d q
    ])

pub bind-over : (ss : List Var) (t : List Value) (e d : Assignment) → over (without ss e) (bind ss t d) ≡ bind ss t (over e d)
bind-over ss t e d = fun_ext (bind-over-at ss t e d)

arg_value-substituted : (e d : Assignment) (a : Arg) → arg_value d (substituted_arg e a) ≡ arg_value (over e d) a
arg_value-substituted e d (arg.Val v) = refl
arg_value-substituted e d (arg.Var s) = (elim (e s.slot) as (λ o. arg_value d (value_or_arg o (arg.Var s)) ≡ or_else o (d s.slot))
    [ Some v ↦ refl | None ↦ refl ])

arg_values-substituted : (e d : Assignment) (xs : List Arg) → arg_values d (substituted_args e xs) ≡ arg_values (over e d) xs
arg_values-substituted e d [] = refl
arg_values-substituted e d (a ∷ xs) = ap₂ prepend (arg_value-substituted e d a) (arg_values-substituted e d xs)

bound_true-substituted : (s : Situation) (e d : Assignment) (b : Bound) → bound_true s d (substituted_bound e b) ≡ bound_true s (over e d) b
unfolding bound_true
bound_true-substituted s e d (bound.Fact p xs) = ap (fact_in s.world p) (arg_values-substituted e d xs)
bound_true-substituted s e d (bound.Place f xs x) = ap₂ (λ a b. same_value (place_value s.world f a) b) (arg_values-substituted e d xs)
    (arg_value-substituted e d x)
bound_true-substituted s e d (bound.GoalFact p xs) = ap (fact_in s.goal p) (arg_values-substituted e d xs)
bound_true-substituted s e d (bound.GoalPlace f xs x) = ap₂ (λ a b. same_value (place_value s.goal f a) b) (arg_values-substituted e d xs)
    (arg_value-substituted e d x)
bound_true-substituted s e d (bound.GoalNot p xs) = ap (fact_in s.avoid p) (arg_values-substituted e d xs)

mutual
  unfolding term_value substituted_term

  term_value-substituted : (w : World) (e d : Assignment) (t : TermTree) → term_value w d (substituted_term e t) ≡ term_value w (over e d) t
  term_value-substituted w e d (variable s) = (elim (e s.slot) as (λ o. term_value w d (value_or_term o (variable s)) ≡
      or_else o (d s.slot)) [ Some v ↦ refl | None ↦ refl ])
  term_value-substituted w e d (value v) = refl
  term_value-substituted w e d (place f ts) = ap (place_value w f) (term_values-substituted w e d ts)
  term_value-substituted w e d (arith op s t at) = ap₂ (apply_op op) (term_value-substituted w e d s) (term_value-substituted w e d t)

  term_values-substituted : (w : World) (e d : Assignment) (ts : TermTrees) → term_values w d (substituted_terms e ts) ≡
      term_values w (over e d) ts
  term_values-substituted w e d no_term = refl
  term_values-substituted w e d (more_terms t ts) = ap₂ prepend (term_value-substituted w e d t) (term_values-substituted w e d ts)

-- a basic formula with values put in
pub basic-substituted : (s : Situation) (e d : Assignment) (f : FormulaTree) → IsBasic f → state_true s d (substituted e f) ≡
    state_true s (over e d) f
unfolding substituted state_true
basic-substituted s e d (atom p ts) h = ap (fact_in s.world p) (term_values-substituted s.world e d ts)
basic-substituted s e d (defined p ts) h = ap (defined_true s.table p) (term_values-substituted s.world e d ts)
basic-substituted s e d (compare c x y) h = ap₂ (compared c) (term_value-substituted s.world e d x) (term_value-substituted s.world e d y)
basic-substituted s e d (goal_fact p xs) h = ap (fact_in s.goal p) (arg_values-substituted e d xs)
basic-substituted s e d (goal_place f xs x) h = ap₂ (λ a b. same_value (place_value s.goal f a) b) (arg_values-substituted e d xs)
    (arg_value-substituted e d x)
basic-substituted s e d (goal_not p xs) h = ap (fact_in s.avoid p) (arg_values-substituted e d xs)
basic-substituted s e d f h = absurd h

pub tuples-substituted : (s : Situation) (e d : Assignment) (ss : List Var) (b : Bound) →
    tuples s d ss (substituted_bound (without ss e) b) ≡ tuples s (over e d) ss b
unfolding tuples
tuples-substituted s e d ss b =
    ap (λ (test : List Value → Bool). filter test (tuples_of (values_of (s.world ∷ s.goal ∷ s.avoid ∷ [])) (length ss)))
    (fun_ext (λ t. bound_true-substituted s (without ss e) (bind ss t d) b ∙
    ap (λ (x : Assignment). bound_true s x b) (bind-over ss t e d)))

mutual
  unfolding substituted Holds

  pub Holds-substituted : (r : Situations) (d e : Assignment) (f : FormulaTree) (i : ℕ) → Holds r d (substituted e f) i ↔
      Holds r (over e d) f i
  Holds-substituted r d e verum i = (λ h. h, λ h. h)
  Holds-substituted r d e falsum i = (λ h. h, λ h. h)
  Holds-substituted r d e (atom p ts) i = iff-path (λ b. b ≡ true) (basic-substituted (r i) e d (atom p ts) tt)
  Holds-substituted r d e (defined p ts) i = iff-path (λ b. b ≡ true) (basic-substituted (r i) e d (defined p ts) tt)
  Holds-substituted r d e (compare c x y) i = iff-path (λ b. b ≡ true) (basic-substituted (r i) e d (compare c x y) tt)
  Holds-substituted r d e (goal_fact p xs) i = iff-path (λ b. b ≡ true) (basic-substituted (r i) e d (goal_fact p xs) tt)
  Holds-substituted r d e (goal_place k xs x) i = iff-path (λ b. b ≡ true) (basic-substituted (r i) e d (goal_place k xs x) tt)
  Holds-substituted r d e (goal_not p xs) i = iff-path (λ b. b ≡ true) (basic-substituted (r i) e d (goal_not p xs) tt)
  Holds-substituted r d e (negation f) i = (λ h k. h ((Holds-substituted r d e f i).1 k), λ h k. h ((Holds-substituted r d e f i).0 k))
  Holds-substituted r d e (conjunction fs) i = HoldAll-substituted r d e fs i
  Holds-substituted r d e (disjunction fs) i = HoldsOne-substituted r d e fs i
  Holds-substituted r d e (for_all ss b f) i =
      iff-trans
      (iff-path (Each (λ t. Holds r (bind ss t d) (substituted (without ss e) f) i)) (tuples-substituted (r i) e d ss b))
      (Each-map (λ t. iff-trans (Holds-substituted r (bind ss t d) (without ss e) f i) (iff-path (λ x. Holds r x f i) (bind-over ss t e d)))
      (tuples (r i) (over e d) ss b))
  Holds-substituted r d e (for_some ss b f) i =
      iff-trans
      (iff-path (AtLeastOne (λ t. Holds r (bind ss t d) (substituted (without ss e) f) i)) (tuples-substituted (r i) e d ss b))
      (One-map (λ t. iff-trans (Holds-substituted r (bind ss t d) (without ss e) f i) (iff-path (λ x. Holds r x f i) (bind-over ss t e d)))
      (tuples (r i) (over e d) ss b))
  Holds-substituted r d e (next f) i = Holds-substituted r d e f (suc i)
  Holds-substituted r d e (always f) i = (
    λ h j q. (Holds-substituted r d e f j).0 (h j q),
    λ h j q.
        (Holds-substituted r d e f j).1 (h j q),
  )
  Holds-substituted r d e (eventually f) i = (
    λ h. (h.0, h.1, (Holds-substituted r d e f h.0).0 h.2),
    λ h.
        (h.0, h.1, (Holds-substituted r d e f h.0).1 h.2),
  )
  Holds-substituted r d e (until f g) i = (
    λ h. (h.0, h.1, (Holds-substituted r d e g h.0).0 h.2, λ k p q. (Holds-substituted r d e f k).0 (h.3 k p q)),
    λ h. (h.0, h.1, (Holds-substituted r d e g h.0).1 h.2, λ k p q. (Holds-substituted r d e f k).1 (h.3 k p q)),
  )
  Holds-substituted r d e (within n f) i = (
    λ h. (h.0, h.1, h.2, (Holds-substituted r d e f h.0).0 h.3),
    λ h.
        (h.0, h.1, h.2, (Holds-substituted r d e f h.0).1 h.3),
  )
  Holds-substituted r d e (during n f) i = (
    λ h j p q. (Holds-substituted r d e f j).0 (h j p q),
    λ h j p q.
        (Holds-substituted r d e f j).1 (h j p q),
  )

  pub HoldAll-substituted : (r : Situations) (d e : Assignment) (fs : FormulaTrees) (i : ℕ) → HoldAll r d (substituted_all e fs) i ↔
      HoldAll r (over e d) fs i
  HoldAll-substituted r d e no_formula i = (λ h. h, λ h. h)
  HoldAll-substituted r d e (more_formulas f fs) i = (
    λ h. ((Holds-substituted r d e f i).0 h.0, (HoldAll-substituted r d e fs i).0 h.1),
    λ h. ((Holds-substituted r d e f i).1 h.0, (HoldAll-substituted r d e fs i).1 h.1),
  )

  pub HoldsOne-substituted : (r : Situations) (d e : Assignment) (fs : FormulaTrees) (i : ℕ) → HoldsOne r d (substituted_all e fs) i ↔
      HoldsOne r (over e d) fs i
  HoldsOne-substituted r d e no_formula i = (λ h. h, λ h. h)
  HoldsOne-substituted r d e (more_formulas f fs) i = (
    elim [ inl h ↦ inl ((Holds-substituted r d e f i).0 h) | inr h ↦ inr ((HoldsOne-substituted r d e fs i).0 h) ],
    elim [ inl h ↦ inl ((Holds-substituted r d e f i).1 h) | inr h ↦ inr ((HoldsOne-substituted r d e fs i).1 h) ],
  )

pub Holds-substituted-no_values : (r : Situations) (e : Assignment) (f : FormulaTree) (i : ℕ) → Holds r no_values (substituted e f) i ↔
    Holds r e f i
Holds-substituted-no_values r e f i = iff-trans (Holds-substituted r no_values e f i) (iff-path (λ x. Holds r x f i) (over-no_values e))
