-- A formula with values put in fits where the formula does, and names named things where both do.
use Rattle.std.proofs.Common.{◌≡◌, ℕ, suc, List, [], ◌∷◌, ◌++◌, length, Bool, true, false, cond, ◌==◌, ◌||◌, Some, None, refl, sym, ap, ◌∙◌}
use Rattle.std.proofs.Common.{subst, true≢false, eq-eqb, eqb-true}
use Rattle.std.specs.List.{list_any}
use Rattle.tl_syntax.specs.declared.variable.Var.{Var}
use Rattle.tl_syntax.specs.declared.variable.Arg.{Arg}
use Rattle.tl_syntax.specs.declared.variable.Arg.TheVariants as arg
use Rattle.tl_syntax.specs.declared.bound.Bound.{Bound}
use Rattle.tl_syntax.specs.declared.bound.Bound.TheVariants as bound
use Rattle.tl_syntax.specs.Assignment.{Assignment}
use Rattle.tl_syntax.specs.BoundVariables.{is_that_variable, stands_in, OccurIn}
use Rattle.tl_syntax.specs.Fits.{ArgFits, ArgsFit, BoundFits, VariablesFit, term_count, TermFits, TermsFit, Fits, AllFit}
use Rattle.tl_syntax.specs.FreeVariables.{slots_of}
use Rattle.tl_syntax.specs.Lists.{Each}
use Rattle.tl_syntax.specs.Named.{ValueIsNamed, ArgIsNamed, BoundIsNamed, TermIsNamed, TermsAreNamed, IsNamed, AreNamed}
use Rattle.tl_syntax.specs.Signature.{Signature, Takes}
use Rattle.tl_syntax.specs.StateFormulas.{IsState, AreState}
use Rattle.tl_syntax.specs.Substitution.{without, value_or_arg, substituted_arg, substituted_args, substituted_bound, value_or_term}
use Rattle.tl_syntax.specs.Substitution.{substituted_term, substituted_terms, substituted, substituted_all}
use Rattle.tl_syntax.specs.SubstitutionKeeps.{GivesNamed}
use Rattle.tl_syntax.specs.Trees.{TermTree, variable, value, place, arith, TermTrees, no_term, more_terms, FormulaTree, verum, falsum, atom}
use Rattle.tl_syntax.specs.Trees.{defined, compare, goal_fact, goal_place, goal_not, negation, conjunction, disjunction, for_all, for_some}
use Rattle.tl_syntax.specs.Trees.{next, always, eventually, until, within, during, FormulaTrees, no_formula, more_formulas}

-- ---- fitting

arg-fits : (e : Assignment) (x : Arg) → ArgFits x → ArgFits (substituted_arg e x)
arg-fits e (arg.Val v) h = h
arg-fits e (arg.Var s) h = (elim (e s.slot) as (λ o. ArgFits (value_or_arg o (arg.Var s))) [ Some v ↦ tt | None ↦ h ])

each_arg-fits : (e : Assignment) (xs : List Arg) → Each ArgFits xs → Each ArgFits (substituted_args e xs)
each_arg-fits e [] h = tt
each_arg-fits e (x ∷ xs) h = (arg-fits e x h.0, each_arg-fits e xs h.1)

length-args : (e : Assignment) (xs : List Arg) → length (substituted_args e xs) ≡ length xs
length-args e [] = refl
length-args e (x ∷ xs) = ap (λ (n : ℕ). suc n) (length-args e xs)

args-fit : (arities : List ℕ) (p : ℕ) (e : Assignment) (xs : List Arg) → ArgsFit arities p xs → ArgsFit arities p (substituted_args e xs)
args-fit arities p e xs h = (subst (λ (n : ℕ). Takes arities p n) (sym (length-args e xs)) h.0, each_arg-fits e xs h.1)

pub bound-fits : (g : Signature) (e : Assignment) (b : Bound) → BoundFits g b → BoundFits g (substituted_bound e b)
bound-fits g e (bound.Fact p xs) h = args-fit g.predicates p e xs h
bound-fits g e (bound.Place f xs x) h = (args-fit g.functions f e xs h.0, arg-fits e x h.1)
bound-fits g e (bound.GoalFact p xs) h = args-fit g.predicates p e xs h
bound-fits g e (bound.GoalPlace f xs x) h = (args-fit g.functions f e xs h.0, arg-fits e x h.1)
bound-fits g e (bound.GoalNot p xs) h = args-fit g.predicates p e xs h

-- an argument that is the variable stays where the variable has no value
is_that_variable-stays : (e : Assignment) (s : Var) → e s.slot ≡ None → (x : Arg) → is_that_variable s x ≡ true →
    is_that_variable s (substituted_arg e x) ≡ true
is_that_variable-stays e s n (arg.Val v) h = absurd (true≢false (sym h))
is_that_variable-stays e s n (arg.Var u) h =
    let same : e u.slot ≡ None = ap e (eqb-true u.slot s.slot h) ∙ n in
    ap (λ o. is_that_variable s (value_or_arg o (arg.Var u))) same ∙ h

any-stays : (e : Assignment) (s : Var) → e s.slot ≡ None → (xs : List Arg) → list_any (is_that_variable s) xs ≡ true →
    list_any (is_that_variable s) (substituted_args e xs) ≡ true
any-stays e s n [] h = h
any-stays e s n (x ∷ xs) h = (elim (is_that_variable s x) as (λ b. is_that_variable s x ≡ b → (b || list_any (is_that_variable s) xs) ≡
    true → (is_that_variable s (substituted_arg e x) || list_any (is_that_variable s) (substituted_args e xs)) ≡ true) [
      | true ↦ λ q k. ap (λ b. b || list_any (is_that_variable s) (substituted_args e xs)) (is_that_variable-stays e s n x q)
      | false ↦ λ q k. or-right (is_that_variable s (substituted_arg e x)) (list_any (is_that_variable s) (substituted_args e xs))
          (any-stays e s n xs k)
    ]) refl h
  where
    or-right : (a b : Bool) → b ≡ true → (a || b) ≡ true
    or-right true b q = refl
    or-right false b q = q

stands-stays : (e : Assignment) (s : Var) → e s.slot ≡ None → (b : Bound) → stands_in s b ≡ true → stands_in s (substituted_bound e b) ≡
    true
stands-stays e s n (bound.Fact p xs) h = any-stays e s n xs h
stands-stays e s n (bound.Place f xs x) h = any-stays e s n (x ∷ xs) h
stands-stays e s n (bound.GoalFact p xs) h = any-stays e s n xs h
stands-stays e s n (bound.GoalPlace f xs x) h = any-stays e s n (x ∷ xs) h
stands-stays e s n (bound.GoalNot p xs) h = any-stays e s n xs h

-- the variables themselves have no value without theirs
without-own : (ss : List Var) (e : Assignment) → Each (λ s. without ss e s.slot ≡ None) ss
without-own [] e = tt
without-own (s ∷ ss) e = (ap (λ b. cond b None (without ss e s.slot)) (eq-eqb s.slot s.slot refl), later ss (without-own ss e))
  where
    later : (us : List Var) → Each (λ u. without ss e u.slot ≡ None) us →
        Each (λ u. cond (u.slot == s.slot) None (without ss e u.slot) ≡ None) us
    later [] h = tt
    later (u ∷ us) h = (
      (elim (u.slot == s.slot) as (λ b. cond b None (without ss e u.slot) ≡ None) [ true ↦ refl | false ↦ h.0 ]),
      later us h.1,
    )

occur-stay : (e : Assignment) (b : Bound) (ss : List Var) → Each (λ s. e s.slot ≡ None) ss → OccurIn ss b →
    OccurIn ss (substituted_bound e b)
occur-stay e b [] n h = tt
occur-stay e b (s ∷ ss) n h = (stands-stays e s n.0 b h.0, occur-stay e b ss n.1 h.1)

variables-fit : (g : Signature) (around : List ℕ) (e : Assignment) (ss : List Var) (b : Bound) → VariablesFit g around ss b →
    VariablesFit g around ss (substituted_bound (without ss e) b)
variables-fit g around e ss b h = record {
  frame = h.frame;
  fresh = h.fresh;
  differ = h.differ;
  occur = occur-stay (without ss e) b ss (without-own ss e) h.occur;
  bound = bound-fits g (without ss e) b h.bound;
}

term_count-substituted : (e : Assignment) (ts : TermTrees) → term_count (substituted_terms e ts) ≡ term_count ts
unfolding term_count substituted_terms
term_count-substituted e no_term = refl
term_count-substituted e (more_terms t ts) = ap (λ (n : ℕ). suc n) (term_count-substituted e ts)

mutual
  unfolding TermFits substituted_term

  pub term-fits : (g : Signature) (e : Assignment) (t : TermTree) → TermFits g t → TermFits g (substituted_term e t)
  term-fits g e (variable s) h = (elim (e s.slot) as (λ o. TermFits g (value_or_term o (variable s))) [ Some v ↦ tt | None ↦ h ])
  term-fits g e (value v) h = h
  term-fits g e (place f ts) h = (subst (λ (n : ℕ). Takes g.functions f n) (sym (term_count-substituted e ts)) h.0, terms-fit g e ts h.1)
  term-fits g e (arith op s t at) h = (term-fits g e s h.0, term-fits g e t h.1)

  pub terms-fit : (g : Signature) (e : Assignment) (ts : TermTrees) → TermsFit g ts → TermsFit g (substituted_terms e ts)
  terms-fit g e no_term h = h
  terms-fit g e (more_terms t ts) h = (term-fits g e t h.0, terms-fit g e ts h.1)

atom-fits : (g : Signature) (arities : List ℕ) (p : ℕ) (e : Assignment) (ts : TermTrees) → Takes arities p (term_count ts) × TermsFit g ts →
    Takes arities p (term_count (substituted_terms e ts)) × TermsFit g (substituted_terms e ts)
atom-fits g arities p e ts h = (subst (λ (n : ℕ). Takes arities p n) (sym (term_count-substituted e ts)) h.0, terms-fit g e ts h.1)

mutual
  unfolding Fits substituted

  pub formula-fits : (g : Signature) (around : List ℕ) (e : Assignment) (f : FormulaTree) → Fits g around f →
      Fits g around (substituted e f)
  formula-fits g around e verum h = h
  formula-fits g around e falsum h = h
  formula-fits g around e (atom p ts) h = atom-fits g g.predicates p e ts h
  formula-fits g around e (defined p ts) h = atom-fits g g.definitions p e ts h
  formula-fits g around e (compare c s t) h = (term-fits g e s h.0, term-fits g e t h.1)
  formula-fits g around e (goal_fact p xs) h = args-fit g.predicates p e xs h
  formula-fits g around e (goal_place k xs x) h = (args-fit g.functions k e xs h.0, arg-fits e x h.1)
  formula-fits g around e (goal_not p xs) h = args-fit g.predicates p e xs h
  formula-fits g around e (negation f) h = formula-fits g around e f h
  formula-fits g around e (conjunction fs) h = all-fit g around e fs h
  formula-fits g around e (disjunction fs) h = all-fit g around e fs h
  formula-fits g around e (for_all ss b f) h = (
    variables-fit g around e ss b h.0,
    formula-fits g (slots_of ss ++ around) (without ss e) f h.1,
  )
  formula-fits g around e (for_some ss b f) h = (
    variables-fit g around e ss b h.0,
    formula-fits g (slots_of ss ++ around) (without ss e) f h.1,
  )
  formula-fits g around e (next f) h = formula-fits g around e f h
  formula-fits g around e (always f) h = formula-fits g around e f h
  formula-fits g around e (eventually f) h = formula-fits g around e f h
  formula-fits g around e (until f k) h = (formula-fits g around e f h.0, formula-fits g around e k h.1)
  formula-fits g around e (within n f) h = formula-fits g around e f h
  formula-fits g around e (during n f) h = formula-fits g around e f h

  all-fit : (g : Signature) (around : List ℕ) (e : Assignment) (fs : FormulaTrees) → AllFit g around fs →
      AllFit g around (substituted_all e fs)
  all-fit g around e no_formula h = h
  all-fit g around e (more_formulas f fs) h = (formula-fits g around e f h.0, all-fit g around e fs h.1)

-- ---- named things

arg-named : (n : ℕ) (e : Assignment) → GivesNamed n e → (x : Arg) → ArgIsNamed n x → ArgIsNamed n (substituted_arg e x)
arg-named n e k (arg.Val v) h = h
arg-named n e k (arg.Var s) h = (elim (e s.slot) as (λ o. e s.slot ≡ o → ArgIsNamed n (value_or_arg o (arg.Var s)))
    [ Some v ↦ λ q. k s.slot v q | None ↦ λ q. h ]) refl

args-named : (n : ℕ) (e : Assignment) → GivesNamed n e → (xs : List Arg) → Each (ArgIsNamed n) xs →
    Each (ArgIsNamed n) (substituted_args e xs)
args-named n e k [] h = tt
args-named n e k (x ∷ xs) h = (arg-named n e k x h.0, args-named n e k xs h.1)

pub bound-named : (n : ℕ) (e : Assignment) (b : Bound) → GivesNamed n e → BoundIsNamed n b → BoundIsNamed n (substituted_bound e b)
bound-named n e (bound.Fact p xs) k h = args-named n e k xs h
bound-named n e (bound.Place f xs x) k h = (arg-named n e k x h.0, args-named n e k xs h.1)
bound-named n e (bound.GoalFact p xs) k h = args-named n e k xs h
bound-named n e (bound.GoalPlace f xs x) k h = (arg-named n e k x h.0, args-named n e k xs h.1)
bound-named n e (bound.GoalNot p xs) k h = args-named n e k xs h

-- fewer values are named where all are
gives_named-without : (n : ℕ) (ss : List Var) (e : Assignment) → GivesNamed n e → GivesNamed n (without ss e)
gives_named-without n [] e k q v = k q v
gives_named-without n (s ∷ ss) e k q v = (elim (q == s.slot) as (λ b. cond b None (without ss e q) ≡ Some v → ValueIsNamed n v) [
  | true ↦ λ h. absurd (let z : ⊥ = cc in z)
  | false ↦ λ h. gives_named-without n ss e k q v h
])

mutual
  unfolding TermIsNamed substituted_term

  term-named : (n : ℕ) (e : Assignment) → GivesNamed n e → (t : TermTree) → TermIsNamed n t → TermIsNamed n (substituted_term e t)
  term-named n e k (variable s) h = (elim (e s.slot) as (λ o. e s.slot ≡ o → TermIsNamed n (value_or_term o (variable s)))
      [ Some v ↦ λ q. k s.slot v q | None ↦ λ q. h ]) refl
  term-named n e k (value v) h = h
  term-named n e k (place f ts) h = terms-named n e k ts h
  term-named n e k (arith op s t at) h = (term-named n e k s h.0, term-named n e k t h.1)

  terms-named : (n : ℕ) (e : Assignment) → GivesNamed n e → (ts : TermTrees) → TermsAreNamed n ts → TermsAreNamed n (substituted_terms e ts)
  terms-named n e k no_term h = h
  terms-named n e k (more_terms t ts) h = (term-named n e k t h.0, terms-named n e k ts h.1)

mutual
  unfolding IsNamed substituted

  pub formula-named : (n : ℕ) (e : Assignment) (f : FormulaTree) → GivesNamed n e → IsNamed n f → IsNamed n (substituted e f)
  formula-named n e verum k h = h
  formula-named n e falsum k h = h
  formula-named n e (atom p ts) k h = terms-named n e k ts h
  formula-named n e (defined p ts) k h = terms-named n e k ts h
  formula-named n e (compare c s t) k h = (term-named n e k s h.0, term-named n e k t h.1)
  formula-named n e (goal_fact p xs) k h = args-named n e k xs h
  formula-named n e (goal_place f xs x) k h = (args-named n e k xs h.0, arg-named n e k x h.1)
  formula-named n e (goal_not p xs) k h = args-named n e k xs h
  formula-named n e (negation f) k h = formula-named n e f k h
  formula-named n e (conjunction fs) k h = all-named n e fs k h
  formula-named n e (disjunction fs) k h = all-named n e fs k h
  formula-named n e (for_all ss b f) k h = (
    h.0,
    bound-named n (without ss e) b (gives_named-without n ss e k) h.1,
    formula-named n (without ss e) f (gives_named-without n ss e k) h.2,
  )
  formula-named n e (for_some ss b f) k h = (
    h.0,
    bound-named n (without ss e) b (gives_named-without n ss e k) h.1,
    formula-named n (without ss e) f (gives_named-without n ss e k) h.2,
  )
  formula-named n e (next f) k h = formula-named n e f k h
  formula-named n e (always f) k h = formula-named n e f k h
  formula-named n e (eventually f) k h = formula-named n e f k h
  formula-named n e (until f g) k h = (formula-named n e f k h.0, formula-named n e g k h.1)
  formula-named n e (within m f) k h = formula-named n e f k h
  formula-named n e (during m f) k h = formula-named n e f k h

  all-named : (n : ℕ) (e : Assignment) (fs : FormulaTrees) → GivesNamed n e → AreNamed n fs → AreNamed n (substituted_all e fs)
  all-named n e no_formula k h = h
  all-named n e (more_formulas f fs) k h = (formula-named n e f k h.0, all-named n e fs k h.1)

-- ---- state formulas

mutual
  unfolding substituted

  pub formula-state : (e : Assignment) (f : FormulaTree) → IsState f → IsState (substituted e f)
  formula-state e verum h = h
  formula-state e falsum h = h
  formula-state e (atom p ts) h = h
  formula-state e (defined p ts) h = h
  formula-state e (compare c s t) h = h
  formula-state e (goal_fact p xs) h = h
  formula-state e (goal_place f xs x) h = h
  formula-state e (goal_not p xs) h = h
  formula-state e (negation f) h = formula-state e f h
  formula-state e (conjunction fs) h = all-state e fs h
  formula-state e (disjunction fs) h = all-state e fs h
  formula-state e (for_all ss b f) h = formula-state (without ss e) f h
  formula-state e (for_some ss b f) h = formula-state (without ss e) f h
  formula-state e (next f) h = h
  formula-state e (always f) h = h
  formula-state e (eventually f) h = h
  formula-state e (until f g) h = h
  formula-state e (within m f) h = h
  formula-state e (during m f) h = h

  all-state : (e : Assignment) (fs : FormulaTrees) → AreState fs → AreState (substituted_all e fs)
  all-state e no_formula h = h
  all-state e (more_formulas f fs) h = (formula-state e f h.0, all-state e fs h.1)
