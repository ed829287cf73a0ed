-- On the run that repeats one world for ever, a formula holds exactly where it is idly true.
use Rattle.std.proofs.Common.{◌≡◌, ℕ, suc, ◌↔◌, true, true≢false, refl, sym, ap, arith}
use Rattle.tl_syntax.specs.Assignment.{Assignment, no_values, bind}
use Rattle.tl_terms.specs.Bounds.{tuples}
use Rattle.tl_terms.specs.Definitions.{situation_of}
use Rattle.tl_terms.specs.Idle.{idle_true, idle_all, idle_one}
use Rattle.tl_terms.specs.LawsIdle.{IdleWords}
use Rattle.tl_syntax.specs.Lists.{Each, AtLeastOne}
use Rattle.tl_terms.specs.Problem.{PlainProblem}
use Rattle.tl_terms.specs.Run.{Situations, Holds, HoldAll, HoldsOne, situations_of, Satisfies, SatisfiesAlong, idle_run}
use Rattle.tl_terms.specs.Situation.{Situation}
use Rattle.tl_syntax.specs.Trees.{FormulaTree, verum, falsum, atom, defined, compare, goal_fact, goal_place, goal_not, negation}
use Rattle.tl_syntax.specs.Trees.{conjunction, disjunction, for_all, for_some, next, always, eventually, until, within, during}
use Rattle.tl_syntax.specs.Trees.{FormulaTrees, no_formula, more_formulas}
use Rattle.tl_terms.specs.Truth.{state_true}
use Rattle.tl_terms.specs.World.{World}
use Rattle.tl_syntax.proofs.ListLaws.{iff-trans, iff-path, and-iff, or-iff, not-iff, all-iff, any-iff}
use Rattle.tl_terms.proofs.PlanLaws.{state-idle}

module _ (r : Situations) (s : Situation) (still : (j : ℕ) → r j ≡ s) where
  mutual
    unfolding Holds idle_true

    pub Holds-idle : (e : Assignment) (f : FormulaTree) (i : ℕ) → Holds r e f i ↔ (idle_true s e f ≡ true)
    Holds-idle e verum i = (λ _. refl, λ _. tt)
    Holds-idle e falsum i = (λ b. absurd b, λ h. true≢false (sym h))
    Holds-idle e (atom p ts) i = iff-path (λ w. state_true w e (atom p ts) ≡ true) (still i)
    Holds-idle e (defined p ts) i = iff-path (λ w. state_true w e (defined p ts) ≡ true) (still i)
    Holds-idle e (compare c x y) i = iff-path (λ w. state_true w e (compare c x y) ≡ true) (still i)
    Holds-idle e (goal_fact p xs) i = iff-path (λ w. state_true w e (goal_fact p xs) ≡ true) (still i)
    Holds-idle e (goal_place k xs x) i = iff-path (λ w. state_true w e (goal_place k xs x) ≡ true) (still i)
    Holds-idle e (goal_not p xs) i = iff-path (λ w. state_true w e (goal_not p xs) ≡ true) (still i)
    Holds-idle e (negation f) i = not-iff (Holds-idle e f i)
    Holds-idle e (conjunction fs) i = all-idle e fs i
    Holds-idle e (disjunction fs) i = one-idle e fs i
    Holds-idle e (for_all ss b f) i =
        iff-trans (iff-path (λ w. Each (λ t. Holds r (bind ss t e) f i) (tuples w e ss b)) (still i))
        (all-iff (λ t. Holds r (bind ss t e) f i) (λ t. idle_true s (bind ss t e) f) (λ t. Holds-idle (bind ss t e) f i) (tuples s e ss b))
    Holds-idle e (for_some ss b f) i =
        iff-trans (iff-path (λ w. AtLeastOne (λ t. Holds r (bind ss t e) f i) (tuples w e ss b)) (still i))
        (any-iff (λ t. Holds r (bind ss t e) f i) (λ t. idle_true s (bind ss t e) f) (λ t. Holds-idle (bind ss t e) f i) (tuples s e ss b))
    Holds-idle e (next f) i = Holds-idle e f (suc i)
    Holds-idle e (always f) i = (λ h. (Holds-idle e f i).0 (h i (omega arith)), λ b j q. (Holds-idle e f j).1 b)
    Holds-idle e (eventually f) i = (λ h. (Holds-idle e f h.0).0 h.2, λ b. (i, omega arith, (Holds-idle e f i).1 b))
    Holds-idle e (until f g) i = (
      λ h. (Holds-idle e g h.0).0 h.2,
      λ b.
          (i, omega arith, (Holds-idle e g i).1 b, λ k p q. absurd (omega arith)),
    )
    Holds-idle e (within n f) i = (λ h. (Holds-idle e f h.0).0 h.3, λ b. (i, omega arith, omega arith, (Holds-idle e f i).1 b))
    Holds-idle e (during n f) i = (λ h. (Holds-idle e f i).0 (h i (omega arith) (omega arith)), λ b j p q. (Holds-idle e f j).1 b)

    all-idle : (e : Assignment) (fs : FormulaTrees) (i : ℕ) → HoldAll r e fs i ↔ (idle_all s e fs ≡ true)
    all-idle e no_formula i = (λ _. refl, λ _. tt)
    all-idle e (more_formulas f fs) i = and-iff (Holds-idle e f i) (all-idle e fs i)

    one-idle : (e : Assignment) (fs : FormulaTrees) (i : ℕ) → HoldsOne r e fs i ↔ (idle_one s e fs ≡ true)
    one-idle e no_formula i = (λ b. absurd b, λ h. true≢false (sym h))
    one-idle e (more_formulas f fs) i = or-iff (Holds-idle e f i) (one-idle e fs i)

-- the idling check is truth on the run that repeats the world for ever
pub Satisfies-idle : (p : PlainProblem) (w : World) (i : ℕ) (f : FormulaTree) → Satisfies p (idle_run w) i f ↔
    (idle_true (situation_of p w) no_values f ≡ true)
unfolding SatisfiesAlong
Satisfies-idle p w i f = Holds-idle (situations_of p (idle_run w)) (situation_of p w)
    (λ j. ap (situation_of p) (state-idle w j)) no_values f i

-- where a world is repeated for ever, each temporal word of one formula means the formula, and `until` means its second part
idle-same : (p : PlainProblem) (w : World) (i : ℕ) (f g : FormulaTree) → idle_true (situation_of p w) no_values f ≡
    idle_true (situation_of p w) no_values g → Satisfies p (idle_run w) i f ↔ Satisfies p (idle_run w) i g
idle-same p w i f g e = iff-trans (Satisfies-idle p w i f) (iff-trans (iff-path (λ b. b ≡ true) e)
    (let k = Satisfies-idle p w i g in (k.1, k.0)))

pub idle-words : (p : PlainProblem) (w : World) (i n : ℕ) (f g : FormulaTree) → IdleWords p w i n f g
unfolding idle_true
idle-words p w i n f g = record {
  of_next = idle-same p w i (next f) f refl;
  of_always = idle-same p w i (always f) f refl;
  of_eventually = idle-same p w i (eventually f) f refl;
  of_within = idle-same p w i (within n f) f refl;
  of_during = idle-same p w i (during n f) f refl;
  of_until = idle-same p w i (until f g) g refl;
}
