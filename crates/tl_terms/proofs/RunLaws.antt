-- Runs with a stem and a loop, and formulas without temporal words.
use Rattle.std.proofs.Common.{◌≡◌, ℕ, suc, ◌+◌, ◌-◌, ◌%◌, ◌≤◌, ◌↔◌, List, [], ◌∷◌, map, flat_map, filter, length, slice_index_or, Bool}
use Rattle.std.proofs.Common.{true, false, cond, not, ◌&&◌, ◌||◌, true≢false, refl, sym, ap, ap₂, ◌∙◌, arith}
use Rattle.std.specs.List.{list_any, list_all}
use borrow.Author.Tests.{le-ltb}
use native.Mathlib.Nat.{add-mod_right}
use mathlib.Core.Path.{fun_ext}
use Rattle.tl_syntax.specs.Assignment.{Assignment, no_values, bind}
use Rattle.tl_terms.specs.Bounds.{tuples}
use Rattle.tl_terms.specs.Definitions.{situation_of}
use Rattle.tl_terms.specs.Problem.{PlainProblem}
use Rattle.tl_terms.specs.Progression.{constant, progressed, progressed_all}
use Rattle.tl_terms.specs.Run.{Situations, Holds, HoldAll, HoldsOne, Run, Worlds, state_at, situations_along, situations_of, Satisfies}
use Rattle.tl_terms.specs.Run.{SatisfiesAlong}
use Rattle.tl_terms.specs.Simplification.{and_parts, or_parts, is_verum, is_falsum, without_repeats, conjunction_of, disjunction_of}
use Rattle.tl_terms.specs.Simplification.{simplified_and, simplified_or, simplified_not}
use Rattle.tl_terms.specs.Situation.{Situation}
use Rattle.tl_syntax.specs.Trees.{FormulaTree, verum, falsum, atom, defined, compare, goal_fact, goal_place, goal_not, negation}
use Rattle.tl_syntax.specs.Trees.{conjunction, disjunction, for_all, for_some, next, always, eventually, until, within, during}
use Rattle.tl_syntax.specs.Trees.{FormulaTrees, no_formula, more_formulas, formulas_of_list}
use Rattle.tl_syntax.specs.StateFormulas.{IsState, AreState}
use Rattle.tl_terms.specs.Truth.{state_true, all_true, one_true}
use Rattle.tl_terms.proofs.FailTogether.{FailTogether, hold-both}
use Rattle.tl_terms.proofs.Lasso.{decided}
use Rattle.tl_terms.proofs.Progression.{progression}
use Rattle.tl_syntax.proofs.ListLaws.{iff-trans, and-iff, or-iff, not-iff, all-iff, any-iff}
use Rattle.tl_terms.proofs.Simplification.{formulas_of_list-All, formulas_of_list-One, simplified_and-holds, simplified_or-holds}
use Rattle.tl_terms.proofs.Simplification.{simplified_not-fails}
use Rattle.tl_syntax.specs.declared.value.Value.{Value}

past : (r : Run) (j : ℕ) → length r.stem ≤ j → state_at r j ≡ slice_index_or (r.first ∷ r.rest)
    ((j - length r.stem) % suc (length r.rest)) r.first
unfolding state_at
past r j h = ap (λ b. cond b (slice_index_or r.stem j r.first) (slice_index_or (r.first ∷ r.rest)
    ((j - length r.stem) % suc (length r.rest)) r.first)) (le-ltb j (length r.stem) h)

-- past the stem the states come again after the loop's length
pub state-again : (r : Run) (j : ℕ) → length r.stem ≤ j → state_at r (j + suc (length r.rest)) ≡ state_at r j
state-again r j h =
    let n : ℕ = suc (length r.rest) in
    let e : j + n - length r.stem ≡ j - length r.stem + n = omega arith in
    past r (j + n) (omega arith) ∙ (ap (λ k. slice_index_or (r.first ∷ r.rest) k r.first)
    (ap (λ k. k % n) e ∙ add-mod_right (j - length r.stem) n) ∙ sym (past r j h))

-- satisfaction is decided on each run of a stem and a loop
pub Satisfies-decided : (p : PlainProblem) (r : Run) (i : ℕ) (f : FormulaTree) → Dec (Satisfies p r i f)
unfolding SatisfiesAlong
Satisfies-decided p r i f =
    decided (situations_of p r) (length r.stem) (suc (length r.rest)) (omega arith)
    (λ j h. ap (situation_of p) (state-again r j h)) no_values f i

-- THE PROGRESSION LEMMA, over every infinite sequence of worlds, and over a run of a stem and a loop
pub progression-along : (p : PlainProblem) (s : Worlds) (i : ℕ) (f : FormulaTree)
    → FailTogether (SatisfiesAlong p s i f) (SatisfiesAlong p s (suc i) (progressed (situation_of p (s i)) no_values f))
unfolding SatisfiesAlong
progression-along p s i f = progression (situations_along p s) i no_values f

pub progression-Satisfies : (p : PlainProblem) (r : Run) (i : ℕ) (f : FormulaTree)
    → Satisfies p r i f ↔ Satisfies p r (suc i) (progressed (situation_of p (state_at r i)) no_values f)
progression-Satisfies p r i f =
    hold-both (Satisfies-decided p r i f) (Satisfies-decided p r (suc i) (progressed (situation_of p (state_at r i)) no_values f))
    (progression-along p (state_at r) i f)

-- ---- formulas without temporal words

-- a formula without temporal words holds at a position where it is true in the state there
mutual
  unfolding Holds state_true

  pub Holds-state : (r : Situations) (e : Assignment) (f : FormulaTree) (i : ℕ) → IsState f → Holds r e f i ↔ (state_true (r i) e f ≡ true)
  Holds-state r e verum i h = (λ _. refl, λ _. tt)
  Holds-state r e falsum i h = (λ b. absurd b, λ e. true≢false (sym e))
  Holds-state r e (atom p ts) i h = (λ k. k, λ k. k)
  Holds-state r e (defined p ts) i h = (λ k. k, λ k. k)
  Holds-state r e (compare c x y) i h = (λ k. k, λ k. k)
  Holds-state r e (goal_fact p xs) i h = (λ k. k, λ k. k)
  Holds-state r e (goal_place m xs x) i h = (λ k. k, λ k. k)
  Holds-state r e (goal_not p xs) i h = (λ k. k, λ k. k)
  Holds-state r e (negation f) i h = not-iff (Holds-state r e f i h)
  Holds-state r e (conjunction fs) i h = HoldAll-state r e fs i h
  Holds-state r e (disjunction fs) i h = HoldsOne-state r e fs i h
  Holds-state r e (for_all ss b f) i h = all-iff (λ t. Holds r (bind ss t e) f i) (λ t. state_true (r i) (bind ss t e) f)
      (λ t. Holds-state r (bind ss t e) f i h) (tuples (r i) e ss b)
  Holds-state r e (for_some ss b f) i h = any-iff (λ t. Holds r (bind ss t e) f i) (λ t. state_true (r i) (bind ss t e) f)
      (λ t. Holds-state r (bind ss t e) f i h) (tuples (r i) e ss b)
  Holds-state r e (next f) i h = absurd h
  Holds-state r e (always f) i h = absurd h
  Holds-state r e (eventually f) i h = absurd h
  Holds-state r e (until f g) i h = absurd h
  Holds-state r e (within n f) i h = absurd h
  Holds-state r e (during n f) i h = absurd h

  HoldAll-state : (r : Situations) (e : Assignment) (fs : FormulaTrees) (i : ℕ) → AreState fs → HoldAll r e fs i ↔
      (all_true (r i) e fs ≡ true)
  HoldAll-state r e no_formula i h = (λ _. refl, λ _. tt)
  HoldAll-state r e (more_formulas f fs) i h = and-iff (Holds-state r e f i h.0) (HoldAll-state r e fs i h.1)

  HoldsOne-state : (r : Situations) (e : Assignment) (fs : FormulaTrees) (i : ℕ) → AreState fs → HoldsOne r e fs i ↔
      (one_true (r i) e fs ≡ true)
  HoldsOne-state r e no_formula i h = (λ b. absurd b, λ e. true≢false (sym e))
  HoldsOne-state r e (more_formulas f fs) i h = or-iff (Holds-state r e f i h.0) (HoldsOne-state r e fs i h.1)

-- ---- progression of them

abbrev all_of : List Bool → Bool
all_of [] = true
all_of (b ∷ bs) = b && all_of bs

abbrev one_of : List Bool → Bool
one_of [] = false
one_of (b ∷ bs) = b || one_of bs

some_falsum : (bs : List Bool) → list_any is_falsum (flat_map and_parts (map constant bs)) ≡ not (all_of bs)
unfolding and_parts
some_falsum [] = refl
some_falsum (true ∷ bs) = some_falsum bs
some_falsum (false ∷ bs) = refl

no_part : (bs : List Bool) → all_of bs ≡ true → filter (λ f. not (is_verum f)) (flat_map and_parts (map constant bs)) ≡ []
unfolding and_parts
no_part [] h = refl
no_part (true ∷ bs) h = no_part bs h
no_part (false ∷ bs) h = absurd (true≢false (sym h))

simplified_and-constants : (bs : List Bool) → simplified_and (map constant bs) ≡ constant (all_of bs)
unfolding simplified_and without_repeats
simplified_and-constants bs = (elim (all_of bs) as (λ b. all_of bs ≡ b → simplified_and (map constant bs) ≡ constant b) [
  | true ↦ λ e. ap₂ (λ c ps. cond c falsum (conjunction_of (without_repeats ps))) (some_falsum bs ∙ ap not e) (no_part bs e)
  | false ↦ λ e. ap (λ c. cond c falsum (conjunction_of (without_repeats
      (filter (λ f. not (is_verum f)) (flat_map and_parts (map constant bs)))))) (some_falsum bs ∙ ap not e)
]) refl

some_verum : (bs : List Bool) → list_any is_verum (flat_map or_parts (map constant bs)) ≡ one_of bs
unfolding or_parts
some_verum [] = refl
some_verum (true ∷ bs) = refl
some_verum (false ∷ bs) = some_verum bs

no_part_or : (bs : List Bool) → one_of bs ≡ false → filter (λ f. not (is_falsum f)) (flat_map or_parts (map constant bs)) ≡ []
unfolding or_parts
no_part_or [] h = refl
no_part_or (true ∷ bs) h = absurd (true≢false h)
no_part_or (false ∷ bs) h = no_part_or bs h

simplified_or-constants : (bs : List Bool) → simplified_or (map constant bs) ≡ constant (one_of bs)
unfolding simplified_or without_repeats
simplified_or-constants bs = (elim (one_of bs) as (λ b. one_of bs ≡ b → simplified_or (map constant bs) ≡ constant b) [
  | false ↦ λ e. ap₂ (λ c ps. cond c verum (disjunction_of (without_repeats ps))) (some_verum bs ∙ e) (no_part_or bs e)
  | true ↦ λ e. ap (λ c. cond c verum (disjunction_of (without_repeats
      (filter (λ f. not (is_falsum f)) (flat_map or_parts (map constant bs)))))) (some_verum bs ∙ e)
]) refl

simplified_not-constant : (b : Bool) → simplified_not (constant b) ≡ constant (not b)
unfolding simplified_not
simplified_not-constant true = refl
simplified_not-constant false = refl

map-map : {A : Type 0} (p : A → Bool) (xs : List A) → map constant (map p xs) ≡ map (λ x. constant (p x)) xs
map-map p [] = refl
map-map p (x ∷ xs) = ap (λ (ts : List FormulaTree). constant (p x) ∷ ts) (map-map p xs)

all_of-map : {A : Type 0} (p : A → Bool) (xs : List A) → all_of (map p xs) ≡ list_all p xs
all_of-map p [] = refl
all_of-map p (x ∷ xs) = ap (λ b. p x && b) (all_of-map p xs)

one_of-map : {A : Type 0} (p : A → Bool) (xs : List A) → one_of (map p xs) ≡ list_any p xs
one_of-map p [] = refl
one_of-map p (x ∷ xs) = ap (λ b. p x || b) (one_of-map p xs)

abbrev truths : Situation → Assignment → FormulaTrees → List Bool
truths s e no_formula = []
truths s e (more_formulas f fs) = state_true s e f ∷ truths s e fs

all_of-truths : (s : Situation) (e : Assignment) (fs : FormulaTrees) → all_of (truths s e fs) ≡ all_true s e fs
unfolding state_true
all_of-truths s e no_formula = refl
all_of-truths s e (more_formulas f fs) = ap (λ b. state_true s e f && b) (all_of-truths s e fs)

one_of-truths : (s : Situation) (e : Assignment) (fs : FormulaTrees) → one_of (truths s e fs) ≡ one_true s e fs
unfolding state_true
one_of-truths s e no_formula = refl
one_of-truths s e (more_formulas f fs) = ap (λ b. state_true s e f || b) (one_of-truths s e fs)

-- a formula without temporal words progresses to the constant of its truth
mutual
  unfolding progressed state_true

  pub progressed-state : (s : Situation) (e : Assignment) (f : FormulaTree) → IsState f → progressed s e f ≡ constant (state_true s e f)
  progressed-state s e verum h = refl
  progressed-state s e falsum h = refl
  progressed-state s e (atom p ts) h = refl
  progressed-state s e (defined p ts) h = refl
  progressed-state s e (compare c x y) h = refl
  progressed-state s e (goal_fact p xs) h = refl
  progressed-state s e (goal_place m xs x) h = refl
  progressed-state s e (goal_not p xs) h = refl
  progressed-state s e (negation f) h = ap simplified_not (progressed-state s e f h) ∙ simplified_not-constant (state_true s e f)
  progressed-state s e (conjunction fs) h = ap simplified_and (progressed_all-state s e fs h) ∙
      (simplified_and-constants (truths s e fs) ∙ ap constant (all_of-truths s e fs))
  progressed-state s e (disjunction fs) h = ap simplified_or (progressed_all-state s e fs h) ∙
      (simplified_or-constants (truths s e fs) ∙ ap constant (one_of-truths s e fs))
  progressed-state s e (for_all ss b f) h =
      let ts : List (List Value) = tuples s e ss b in
      ap (λ (q : List Value → FormulaTree). simplified_and (map q ts)) (fun_ext (λ t. progressed-state s (bind ss t e) f h))
      ∙ (ap simplified_and (sym (map-map (λ t. state_true s (bind ss t e) f) ts)) ∙
      (simplified_and-constants (map (λ t. state_true s (bind ss t e) f) ts) ∙
      ap constant (all_of-map (λ t. state_true s (bind ss t e) f) ts)))
  progressed-state s e (for_some ss b f) h =
      let ts : List (List Value) = tuples s e ss b in
      ap (λ (q : List Value → FormulaTree). simplified_or (map q ts)) (fun_ext (λ t. progressed-state s (bind ss t e) f h))
      ∙ (ap simplified_or (sym (map-map (λ t. state_true s (bind ss t e) f) ts)) ∙
      (simplified_or-constants (map (λ t. state_true s (bind ss t e) f) ts) ∙
      ap constant (one_of-map (λ t. state_true s (bind ss t e) f) ts)))
  progressed-state s e (next f) h = absurd h
  progressed-state s e (always f) h = absurd h
  progressed-state s e (eventually f) h = absurd h
  progressed-state s e (until f g) h = absurd h
  progressed-state s e (within n f) h = absurd h
  progressed-state s e (during n f) h = absurd h

  progressed_all-state : (s : Situation) (e : Assignment) (fs : FormulaTrees) → AreState fs → progressed_all s e fs ≡
      map constant (truths s e fs)
  progressed_all-state s e no_formula h = refl
  progressed_all-state s e (more_formulas f fs) h = ap₂ ◌∷◌ (progressed-state s e f h.0) (progressed_all-state s e fs h.1)

-- ---- simplified words

pub not-keeps : (p : PlainProblem) (r : Run) (i : ℕ) (f : FormulaTree) → Satisfies p r i (simplified_not f) ↔ Satisfies p r i (negation f)
unfolding SatisfiesAlong Holds
not-keeps p r i f =
    hold-both (Satisfies-decided p r i (simplified_not f)) (Satisfies-decided p r i (negation f))
    (simplified_not-fails (situations_of p r) no_values i f)

pub and-keeps : (p : PlainProblem) (r : Run) (i : ℕ) (fs : List FormulaTree) → Satisfies p r i (simplified_and fs) ↔
    Satisfies p r i (conjunction (formulas_of_list fs))
unfolding SatisfiesAlong Holds
and-keeps p r i fs = iff-trans (simplified_and-holds (situations_of p r) no_values i fs)
    (let k = formulas_of_list-All (situations_of p r) no_values i fs in (k.1, k.0))

pub or-keeps : (p : PlainProblem) (r : Run) (i : ℕ) (fs : List FormulaTree) → Satisfies p r i (simplified_or fs) ↔
    Satisfies p r i (disjunction (formulas_of_list fs))
unfolding SatisfiesAlong Holds
or-keeps p r i fs = iff-trans (simplified_or-holds (situations_of p r) no_values i fs)
    (let k = formulas_of_list-One (situations_of p r) no_values i fs in (k.1, k.0))

-- a formula without temporal words holds at a position of a run exactly where it is true in the world there
pub Satisfies-state : (p : PlainProblem) (r : Run) (i : ℕ) (f : FormulaTree) → IsState f → Satisfies p r i f ↔
    (state_true (situation_of p (state_at r i)) no_values f ≡ true)
unfolding SatisfiesAlong
Satisfies-state p r i f h = Holds-state (situations_of p r) no_values f i h
