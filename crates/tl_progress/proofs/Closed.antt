-- A tree without free variables means the same under all assignments.
use Rattle.std.proofs.Common.{◌≡◌, ◌↔◌, ℕ, List, [], ◌∷◌, ◌++◌, flat_map, Bool, true, false, true≢false, cond, not, ◌==◌, ◌||◌, Option}
use Rattle.std.proofs.Common.{None, refl, sym, ap, ap₂, ◌∙◌, subst}
use Rattle.tl_syntax.specs.declared.bound.Bound.{Bound}
use Rattle.tl_syntax.specs.declared.bound.Bound.TheVariants as bound
use Rattle.tl_syntax.specs.declared.value.Value.{Value}
use Rattle.tl_syntax.specs.declared.variable.Arg.{Arg}
use Rattle.tl_syntax.specs.declared.variable.Arg.TheVariants as arg
use Rattle.tl_syntax.specs.declared.variable.Var.{Var}
use Rattle.tl_syntax.specs.Assignment.{Assignment, no_values}
use Rattle.tl_syntax.specs.FreeVariables.{slots_of, arg_slots, bound_slots, is_slot_in, slots_without, term_slots, terms_slots, free_slots}
use Rattle.tl_syntax.specs.FreeVariables.{all_free_slots, InScope}
use Rattle.tl_syntax.specs.Lists.{Each}
use Rattle.tl_syntax.specs.Substitution.{without, value_or_arg, substituted_arg, substituted_args, substituted_bound, value_or_term}
use Rattle.tl_syntax.specs.Substitution.{substituted_term, substituted_terms, substituted, substituted_all}
use Rattle.tl_syntax.specs.Trees.{TermTree, TermTrees, variable, value, place, arith, no_term, more_terms, FormulaTree, FormulaTrees, verum}
use Rattle.tl_syntax.specs.Trees.{falsum, atom, defined, compare, goal_fact, goal_place, goal_not, negation, conjunction, disjunction}
use Rattle.tl_syntax.specs.Trees.{for_all, for_some, next, always, eventually, until, within, during, no_formula, more_formulas}
use Rattle.tl_syntax.proofs.ListLaws.{Each-append}
use Rattle.tl_terms.specs.Idle.{idle_true}
use Rattle.tl_terms.specs.Progression.{progressed}
use Rattle.tl_terms.specs.Run.{Holds}
use Rattle.tl_terms.specs.Situation.{Situation}
use Rattle.tl_terms.proofs.IdleLaws.{Holds-idle}
use Rattle.tl_terms.proofs.SubstitutedHolds.{over-no_values, Holds-substituted-no_values}
use Rattle.tl_terms.proofs.SubstitutionLaws.{progressed-substituted}

-- none of these slots has a value
abbrev Unset : Assignment → List ℕ → Type 0
Unset e qs = Each (λ q. e q ≡ None) qs

unset-both : (e : Assignment) (xs ys : List ℕ) → Unset e (xs ++ ys) → Unset e xs × Unset e ys
unset-both e xs ys h = (Each-append (λ q. e q ≡ None) xs ys).0 h

-- a slot has no value without the variables, where it is one of theirs or has none before
without-unset : (ss : List Var) (e : Assignment) (q : ℕ) → (is_slot_in (slots_of ss) q ≡ false → e q ≡ None) → without ss e q ≡ None
without-unset [] e q h = h refl
without-unset (s ∷ ss) e q h = (elim (q == s.slot) as (λ b. ((b || is_slot_in (slots_of ss) q) ≡ false → e q ≡ None) →
    cond b None (without ss e q) ≡ None) [ true ↦ λ k. refl | false ↦ λ k. without-unset ss e q k ]) h

unset-below : (ss : List Var) (e : Assignment) (qs : List ℕ) → Unset e (slots_without (slots_of ss) qs) → Unset (without ss e) qs
unset-below ss e [] h = tt
unset-below ss e (q ∷ qs) h = (elim (is_slot_in (slots_of ss) q) as (λ b. is_slot_in (slots_of ss) q ≡ b →
    Unset e (cond (not b) (q ∷ slots_without (slots_of ss) qs) (slots_without (slots_of ss) qs)) → (without ss e q ≡ None) ×
    Unset (without ss e) qs) [
      | true ↦ λ x k. (without-unset ss e q (λ z. absurd (true≢false (sym x ∙ z))), unset-below ss e qs k)
      | false ↦ λ x k. (without-unset ss e q (λ z. k.0), unset-below ss e qs k.1)
    ]) refl h

arg-stays : (e : Assignment) (x : Arg) → Unset e (arg_slots x) → substituted_arg e x ≡ x
arg-stays e (arg.Var s) h = ap (λ (o : Option Value). value_or_arg o (arg.Var s)) h.0
arg-stays e (arg.Val v) h = refl

args-stay : (e : Assignment) (xs : List Arg) → Unset e (flat_map arg_slots xs) → substituted_args e xs ≡ xs
args-stay e [] h = refl
args-stay e (x ∷ xs) h = let k = unset-both e (arg_slots x) (flat_map arg_slots xs) h in ap₂ ◌∷◌ (arg-stays e x k.0) (args-stay e xs k.1)

bound-stays : (e : Assignment) (b : Bound) → Unset e (bound_slots b) → substituted_bound e b ≡ b
bound-stays e (bound.Fact p xs) h = ap (bound.Fact p) (args-stay e xs h)
bound-stays e (bound.Place f xs x) h = let k = unset-both e (arg_slots x) (flat_map arg_slots xs) h in
    ap₂ (bound.Place f) (args-stay e xs k.1) (arg-stays e x k.0)
bound-stays e (bound.GoalFact p xs) h = ap (bound.GoalFact p) (args-stay e xs h)
bound-stays e (bound.GoalPlace f xs x) h = let k = unset-both e (arg_slots x) (flat_map arg_slots xs) h in
    ap₂ (bound.GoalPlace f) (args-stay e xs k.1) (arg-stays e x k.0)
bound-stays e (bound.GoalNot p xs) h = ap (bound.GoalNot p) (args-stay e xs h)

mutual
  unfolding term_slots substituted_term

  term-stays : (e : Assignment) (t : TermTree) → Unset e (term_slots t) → substituted_term e t ≡ t
  term-stays e (variable s) h = ap (λ (o : Option Value). value_or_term o (variable s)) h.0
  term-stays e (value v) h = refl
  term-stays e (place f ts) h = ap (place f) (terms-stay e ts h)
  term-stays e (arith op s t at) h = let k = unset-both e (term_slots s) (term_slots t) h in
      ap₂ (λ a b. arith op a b at) (term-stays e s k.0) (term-stays e t k.1)

  terms-stay : (e : Assignment) (ts : TermTrees) → Unset e (terms_slots ts) → substituted_terms e ts ≡ ts
  terms-stay e no_term h = refl
  terms-stay e (more_terms t ts) h = let k = unset-both e (term_slots t) (terms_slots ts) h in
      ap₂ more_terms (term-stays e t k.0) (terms-stay e ts k.1)

mutual
  unfolding free_slots substituted

  stays-as-it-is : (e : Assignment) (f : FormulaTree) → Unset e (free_slots f) → substituted e f ≡ f
  stays-as-it-is e verum h = refl
  stays-as-it-is e falsum h = refl
  stays-as-it-is e (atom p ts) h = ap (atom p) (terms-stay e ts h)
  stays-as-it-is e (defined p ts) h = ap (defined p) (terms-stay e ts h)
  stays-as-it-is e (compare c x y) h = let k = unset-both e (term_slots x) (term_slots y) h in
      ap₂ (compare c) (term-stays e x k.0) (term-stays e y k.1)
  stays-as-it-is e (goal_fact p xs) h = ap (goal_fact p) (args-stay e xs h)
  stays-as-it-is e (goal_place f xs x) h = let k = unset-both e (arg_slots x) (flat_map arg_slots xs) h in
      ap₂ (goal_place f) (args-stay e xs k.1) (arg-stays e x k.0)
  stays-as-it-is e (goal_not p xs) h = ap (goal_not p) (args-stay e xs h)
  stays-as-it-is e (negation f) h = ap negation (stays-as-it-is e f h)
  stays-as-it-is e (conjunction fs) h = ap conjunction (all-stay e fs h)
  stays-as-it-is e (disjunction fs) h = ap disjunction (all-stay e fs h)
  stays-as-it-is e (for_all ss b f) h = let k = unset-both (without ss e) (bound_slots b) (free_slots f)
      (unset-below ss e (bound_slots b ++ free_slots f) h) in ap₂ (for_all ss) (bound-stays (without ss e) b k.0)
      (stays-as-it-is (without ss e) f k.1)
  stays-as-it-is e (for_some ss b f) h = let k = unset-both (without ss e) (bound_slots b) (free_slots f)
      (unset-below ss e (bound_slots b ++ free_slots f) h) in ap₂ (for_some ss) (bound-stays (without ss e) b k.0)
      (stays-as-it-is (without ss e) f k.1)
  stays-as-it-is e (next f) h = ap next (stays-as-it-is e f h)
  stays-as-it-is e (always f) h = ap always (stays-as-it-is e f h)
  stays-as-it-is e (eventually f) h = ap eventually (stays-as-it-is e f h)
  stays-as-it-is e (until f g) h = let k = unset-both e (free_slots f) (free_slots g) h in
      ap₂ until (stays-as-it-is e f k.0) (stays-as-it-is e g k.1)
  stays-as-it-is e (within n f) h = ap (within n) (stays-as-it-is e f h)
  stays-as-it-is e (during n f) h = ap (during n) (stays-as-it-is e f h)

  all-stay : (e : Assignment) (fs : FormulaTrees) → Unset e (all_free_slots fs) → substituted_all e fs ≡ fs
  all-stay e no_formula h = refl
  all-stay e (more_formulas f fs) h = let k = unset-both e (free_slots f) (all_free_slots fs) h in
      ap₂ more_formulas (stays-as-it-is e f k.0) (all-stay e fs k.1)

-- no slot is free at all
closed-unset : (e : Assignment) (qs : List ℕ) → InScope [] qs → Unset e qs
closed-unset e [] h = tt
closed-unset e (q ∷ qs) h = absurd (true≢false (sym h.0))

pub closed-substituted : (e : Assignment) (f : FormulaTree) → InScope [] (free_slots f) → substituted e f ≡ f
closed-substituted e f h = stays-as-it-is e f (closed-unset e (free_slots f) h)

closed-as-empty : (s : Situation) (e : Assignment) (f : FormulaTree) → InScope [] (free_slots f) → progressed s no_values f ≡
    progressed s e f
closed-as-empty s e f h = ap (progressed s no_values) (sym (closed-substituted e f h)) ∙
    (progressed-substituted s no_values e f ∙ ap (λ (x : Assignment). progressed s x f) (over-no_values e))

pub closed-progressed : (s : Situation) (d e : Assignment) (f : FormulaTree) → InScope [] (free_slots f) → progressed s d f ≡
    progressed s e f
closed-progressed s d e f h = sym (closed-as-empty s d f h) ∙ closed-as-empty s e f h

same-bool : (a b : Bool) → (a ≡ true) ↔ (b ≡ true) → a ≡ b
same-bool true b h = sym (h.0 refl)
same-bool false true h = h.1 refl
same-bool false false h = refl

closed-idle-as-empty : (s : Situation) (e : Assignment) (f : FormulaTree) → InScope [] (free_slots f) → idle_true s no_values f ≡
    idle_true s e f
closed-idle-as-empty s e f h =
    let none = Holds-idle (λ (_ : ℕ). s) s (λ j. refl) no_values f 0 in
    let some = Holds-idle (λ (_ : ℕ). s) s (λ j. refl) e f 0 in
    let put = Holds-substituted-no_values (λ (_ : ℕ). s) e f 0 in
    let same = closed-substituted e f h in
    same-bool (idle_true s no_values f) (idle_true s e f) (
      λ k. some.0 (put.0 (subst (λ (g : FormulaTree). Holds (λ (_ : ℕ). s) no_values g 0) (sym same) (none.1 k))),
      λ k. none.0 (subst (λ (g : FormulaTree). Holds (λ (_ : ℕ). s) no_values g 0) same (put.1 (some.1 k))),
    )

pub closed-idle : (s : Situation) (d e : Assignment) (f : FormulaTree) → InScope [] (free_slots f) → idle_true s d f ≡ idle_true s e f
closed-idle s d e f h = sym (closed-idle-as-empty s d f h) ∙ closed-idle-as-empty s e f h
