-- What has to hold next for a formula of named things, in a named world, is of named things.
use Rattle.std.proofs.Common.{◌≡◌, ℕ, zero, suc, List, [], ◌∷◌, map, flat_map, length, inl, inr}
use Rattle.std.specs.FinSet as set
use Rattle.std.specs.FinMap as dict
use Rattle.tl_syntax.specs.declared.bound.Bound.{Bound}
use Rattle.tl_syntax.specs.declared.problem.Problem.{Problem}
use Rattle.tl_syntax.specs.declared.value.Value.{Value}
use Rattle.tl_syntax.specs.declared.variable.Var.{Var}
use Rattle.tl_syntax.specs.Assignment.{Assignment, no_values, bind}
use Rattle.tl_syntax.specs.Keys.{Key}
use Rattle.tl_syntax.specs.Lists.{Each, Among}
use Rattle.tl_syntax.specs.Named.{ValueIsNamed, IsNamed, AreNamed}
use Rattle.tl_syntax.specs.Substitution.{substituted}
use Rattle.tl_syntax.specs.Trees.{FormulaTree, FormulaTrees, verum, falsum, atom, defined, compare, goal_fact, goal_place, goal_not}
use Rattle.tl_syntax.specs.Trees.{negation, conjunction, disjunction, for_all, for_some, next, always, eventually, until, within, during}
use Rattle.tl_syntax.specs.Trees.{no_formula, more_formulas}
use Rattle.tl_syntax.proofs.ListLaws.{One-append, One-flat, one_out, Each-Among}
use Rattle.tl_syntax.proofs.SubstitutedFits.{formula-named}
use Rattle.tl_terms.specs.Bounds.{tuples}
use Rattle.tl_terms.specs.Definitions.{situation_of}
use Rattle.tl_terms.specs.NamedWorlds.{WorldIsNamed}
use Rattle.tl_terms.specs.ProblemMeaning.{plain_problem}
use Rattle.tl_terms.specs.Progression.{progressed, progressed_all}
use Rattle.tl_terms.specs.Simplification.{simplified_and}
use Rattle.tl_terms.specs.Situation.{Situation}
use Rattle.tl_terms.specs.World.{World, values_in, values_of}
use Rattle.tl_terms.proofs.ByParts.{EachOf, GoesByParts, of-and, of-or, of-not, of-constant, each-map}
use Rattle.tl_terms.proofs.KeyLaws.{fact-among, place-among}
use Rattle.tl_terms.proofs.NamedSteps.{AssignmentIsNamed, SituationIsNamed, nothing-named, bound-named}
use Rattle.tl_terms.proofs.NamedWorlds.{goal-named, avoid-named}
use Rattle.tl_terms.proofs.Tuples.{worlds_of, Among-tuples, Among-values_of}

-- ---- the tuples of a bound

in-world : (n : ℕ) (w : World) (v : Value) → WorldIsNamed n w → Among v (values_in w) → ValueIsNamed n v
in-world n w v h m = elim ((One-append (λ y. y ≡ v) (flat_map (λ k. k.1) (set.items w.facts))
    (flat_map (λ x. x.1 ∷ x.0.1) (dict.entries w.places))).0 m) [
      | inl f ↦ (let k = one_out (λ (x : Key). Among v x.1) (set.items w.facts)
          ((One-flat (λ y. y ≡ v) (λ (x : Key). x.1) (set.items w.facts)).0 f) in
          (Each-Among (ValueIsNamed n) k.0.1).0 (h.facts k.0 ((fact-among w k.0).0 k.1.0)) v k.1.1)
      | inr p ↦ (let x = one_out (λ (x : Key × Value). Among v (x.1 ∷ x.0.1)) (dict.entries w.places)
          ((One-flat (λ y. y ≡ v) (λ (x : Key × Value). x.1 ∷ x.0.1) (dict.entries w.places)).0 p) in
          let at = h.places x.0.0 x.0.1 ((place-among w x.0.0 x.0.1).0 x.1.0) in
          (Each-Among (ValueIsNamed n) (x.0.1 ∷ x.0.0.1)).0 (at.1, at.0) v x.1.1)
    ]

in-situation : (n : ℕ) (s : Situation) (v : Value) → SituationIsNamed n s → Among v (values_of (worlds_of s)) → ValueIsNamed n v
in-situation n s v h m =
    let w = one_out (λ (x : World). Among v (values_in x)) (worlds_of s)
    ((One-flat (λ y. y ≡ v) values_in (worlds_of s)).0 ((Among-values_of (worlds_of s) v).0 m)) in
    in-world n w.0 v ((Each-Among (WorldIsNamed n) (worlds_of s)).0 (h.world, (h.goal, (h.avoid, tt))) w.0 w.1.0) w.1.1

each-in-situation : (n : ℕ) (s : Situation) (t : List Value) → SituationIsNamed n s → Each (λ v. Among v (values_of (worlds_of s))) t →
    Each (ValueIsNamed n) t
each-in-situation n s [] h k = tt
each-in-situation n s (v ∷ t) h k = (in-situation n s v h k.0, each-in-situation n s t h k.1)

tuple-named : (n : ℕ) (s : Situation) (e : Assignment) (ss : List Var) (b : Bound) (t : List Value) → SituationIsNamed n s →
    Among t (tuples s e ss b) → Each (ValueIsNamed n) t
tuple-named n s e ss b t h m = each-in-situation n s t h ((Among-tuples s e ss b t).0 m).0.1

-- ---- residuals

named-by-parts : (n : ℕ) → GoesByParts (IsNamed n)
unfolding IsNamed
named-by-parts n = record {
  truth = tt;
  falsehood = tt;
  of_and = out;
  and_of = back;
  of_or = out;
  or_of = back;
  of_not = λ f h. h;
  not_of = λ f h. h;
}
  where
    out : (fs : FormulaTrees) → AreNamed n fs → EachOf (IsNamed n) fs
    out no_formula h = tt
    out (more_formulas f fs) h = (h.0, out fs h.1)

    back : (fs : FormulaTrees) → EachOf (IsNamed n) fs → AreNamed n fs
    back no_formula h = tt
    back (more_formulas f fs) h = (h.0, back fs h.1)

module _ (n : ℕ) (s : Situation) (worlds : SituationIsNamed n s) where
  mutual
    unfolding progressed IsNamed

    pub named-next : (e : Assignment) → AssignmentIsNamed n e → (f : FormulaTree) → IsNamed n f → IsNamed n (progressed s e f)
    named-next e k verum h = tt
    named-next e k falsum h = tt
    named-next e k (atom p ts) h = of-constant (IsNamed n) (named-by-parts n) _
    named-next e k (defined p ts) h = of-constant (IsNamed n) (named-by-parts n) _
    named-next e k (compare c x y) h = of-constant (IsNamed n) (named-by-parts n) _
    named-next e k (goal_fact p xs) h = of-constant (IsNamed n) (named-by-parts n) _
    named-next e k (goal_place f xs x) h = of-constant (IsNamed n) (named-by-parts n) _
    named-next e k (goal_not p xs) h = of-constant (IsNamed n) (named-by-parts n) _
    named-next e k (negation f) h = of-not (IsNamed n) (named-by-parts n) (progressed s e f) (named-next e k f h)
    named-next e k (conjunction fs) h = of-and (IsNamed n) (named-by-parts n) (progressed_all s e fs) (all-named-next e k fs h)
    named-next e k (disjunction fs) h = of-or (IsNamed n) (named-by-parts n) (progressed_all s e fs) (all-named-next e k fs h)
    named-next e k (for_all ss b f) h =
        of-and (IsNamed n) (named-by-parts n) (map (λ t. progressed s (bind ss t e) f) (tuples s e ss b))
        (each-map (IsNamed n) (named-by-parts n) (λ t. progressed s (bind ss t e) f) (tuples s e ss b)
        (λ t m. named-next (bind ss t e) (bound-named n ss t e k (tuple-named n s e ss b t worlds m)) f h.2))
    named-next e k (for_some ss b f) h =
        of-or (IsNamed n) (named-by-parts n) (map (λ t. progressed s (bind ss t e) f) (tuples s e ss b))
        (each-map (IsNamed n) (named-by-parts n) (λ t. progressed s (bind ss t e) f) (tuples s e ss b)
        (λ t m. named-next (bind ss t e) (bound-named n ss t e k (tuple-named n s e ss b t worlds m)) f h.2))
    named-next e k (next f) h = formula-named n e f k h
    named-next e k (always f) h = of-and (IsNamed n) (named-by-parts n) (progressed s e f ∷ substituted e (always f) ∷ [])
        (named-next e k f h, (formula-named n e (always f) k h, tt))
    named-next e k (eventually f) h = of-or (IsNamed n) (named-by-parts n) (progressed s e f ∷ substituted e (eventually f) ∷ [])
        (named-next e k f h, (formula-named n e (eventually f) k h, tt))
    named-next e k (until f g) h =
        of-or (IsNamed n) (named-by-parts n) (progressed s e g ∷ simplified_and (progressed s e f ∷ substituted e (until f g) ∷ []) ∷ []) (
          named-next e k g h.1,
          (
            of-and (IsNamed n) (named-by-parts n) (progressed s e f ∷ substituted e (until f g) ∷ [])
                (named-next e k f h.0, (formula-named n e (until f g) k h, tt)),
            tt,
          ),
        )
    named-next e k (within zero f) h = named-next e k f h
    named-next e k (within (suc m) f) h = of-or (IsNamed n) (named-by-parts n) (progressed s e f ∷ substituted e (within m f) ∷ [])
        (named-next e k f h, (formula-named n e (within m f) k h, tt))
    named-next e k (during zero f) h = named-next e k f h
    named-next e k (during (suc m) f) h = of-and (IsNamed n) (named-by-parts n) (progressed s e f ∷ substituted e (during m f) ∷ [])
        (named-next e k f h, (formula-named n e (during m f) k h, tt))

    all-named-next : (e : Assignment) → AssignmentIsNamed n e → (fs : FormulaTrees) → AreNamed n fs →
        Each (IsNamed n) (progressed_all s e fs)
    all-named-next e k no_formula h = tt
    all-named-next e k (more_formulas f fs) h = (named-next e k f h.0, all-named-next e k fs h.1)

-- the residual of a named formula in a named world of a problem is named
pub residual-named : (p : Problem) (w : World) (f : FormulaTree) → WorldIsNamed (length p.names) w → IsNamed (length p.names) f →
    IsNamed (length p.names) (progressed (situation_of (plain_problem p) w) no_values f)
unfolding situation_of
residual-named p w f h k = named-next (length p.names) (situation_of (plain_problem p) w)
    (record { world = h; goal = goal-named p; avoid = avoid-named p }) no_values (nothing-named (length p.names)) f k
