-- What is true ahead is what holds along a run.
use Rattle.std.proofs.Common.{◌≡◌, ◌≤◌, ◌<◌, ◌+◌, ◌↔◌, ℕ, zero, suc, List, [], ◌∷◌, ◌++◌, take, drop, length, get_or, Some, Bool, true}
use Rattle.std.proofs.Common.{false, true≢false, refl, sym, ap, ap₂, ◌∙◌, subst, arith, add-one, length-append}
use Rattle.std.specs.Prelude.{slice_get, slice_index_or}
use Rattle.std.specs.List.{list_any, list_all}
use Rattle.tl_check.proofs.AtomLaws.{opened-at}
use Rattle.tl_check.proofs.HistoryLaws.{there-is}
use Rattle.tl_check.proofs.LabelLaws.{marks-length, marks-at, marks-drop, marks-made, marks-until, word-looks, word-first}
use Rattle.tl_check.proofs.LassoLaws.{period-is, situation-there, holds-again}
use Rattle.tl_check.proofs.RoundLaws.{Marks, Repeats, next-round, always-round, eventually-round, within-round_of, during-round}
use Rattle.tl_check.proofs.RoundLaws.{until-round}
use Rattle.tl_check.specs.Ahead.{Ahead, Course, marks, marks_on, first_of, in_first, true_ahead, all_ahead, one_ahead}
use Rattle.tl_check.specs.Later.{later_tree, later_labels}
use Rattle.tl_check.specs.Passes.{until_labels}
use Rattle.tl_check.specs.Rounds.{course_from, course_of, worlds_of, lasso_run, situations_round}
use Rattle.tl_check.specs.declared.later.Later.{Later}
use Rattle.tl_check.specs.declared.later.Later.TheVariants as later
use Rattle.tl_syntax.proofs.ListLaws.{iff-trans, iff-path, and-iff, or-iff, not-iff, all-iff, any-iff}
use Rattle.tl_syntax.specs.Assignment.{Assignment, no_values, bind}
use Rattle.tl_syntax.specs.Lists.{Each, AtLeastOne}
use Rattle.tl_syntax.specs.Trees.{FormulaTree, FormulaTrees, verum, falsum, atom, defined, compare, goal_fact, goal_place, goal_not}
use Rattle.tl_syntax.specs.Trees.{negation, conjunction, disjunction, for_all, for_some, next, always, eventually, until, within, during}
use Rattle.tl_syntax.specs.Trees.{no_formula, more_formulas}
use Rattle.tl_terms.specs.Acceptance.{all_but_last, last_of, run_of}
use Rattle.tl_terms.specs.Bounds.{tuples}
use Rattle.tl_terms.specs.Definitions.{situation_of}
use Rattle.tl_terms.specs.Problem.{PlainProblem}
use Rattle.tl_terms.specs.Run.{Holds, HoldAll, HoldsOne, Run, Satisfies, SatisfiesAlong}
use Rattle.tl_terms.specs.Situation.{Situation}
use Rattle.tl_terms.specs.Truth.{state_true}
use Rattle.tl_terms.specs.World.{World}

truly : Unit {0} ↔ (true ≡ true)
truly = (λ _. refl, λ _. tt)

falsely : ⊥ ↔ (false ≡ true)
falsely = (λ b. absurd b, λ e. true≢false (sym e))

read-there : (ws : List World) (i : ℕ) (w : World) → slice_get ws i ≡ Some w → w ≡ get_or ws i w
read-there [] i w h = absurd (let z : ⊥ = cc in z)
read-there (v ∷ ws) zero w h = let q : v ≡ w = cc in sym q
read-there (v ∷ ws) (suc i) w h = read-there ws i w h

module _ (p : PlainProblem) (n : ℕ) (ws : List World) (loops : n < length ws) where
  abbrev c : Course
  c = course_from p n ws

  abbrev period : ℕ
  period = suc (length (drop (n + 1) ws))

  rises : 0 < period
  rises = omega arith

  -- the test says at which positions Q holds
  abbrev Tells : (ℕ → Type 0) → Ahead → Type 0
  Tells Q t = (i : ℕ) → i < length ws → Q i ↔ (t (drop i ws) ≡ true)

  -- so do its labels
  labels-tell : (Q : ℕ → Type 0) (t : Ahead) → Tells Q t → Marks Q (marks t ws)
  labels-tell Q t h = record {
    at = λ i l. (let m : i < length ws = omega (arith, l, marks-length t ws) in
        iff-trans (h i m) (iff-path (λ (b : Bool). b ≡ true) (sym (marks-at t ws i false m))));
  }

  test-tells : (Q : ℕ → Type 0) (t : Ahead) → Marks Q (marks t ws) → Tells Q t
  test-tells Q t h i l = iff-trans (h.at i (omega (arith, marks-length t ws))) (iff-path (λ (b : Bool). b ≡ true) (marks-at t ws i false l))

  size-is : (t : Ahead) → length (marks t ws) ≡ n + period
  size-is t = marks-length t ws ∙ sym (period-is p n ws loops)

  -- the labels of a round
  round-is : (t : Ahead) → marks t ws ++ drop n (marks t ws) ≡ marks_on c t ws
  round-is t = ap (λ (bs : List Bool). marks t ws ++ bs) (marks-drop t n ws)

  word-tells : (word : Later) (Q : ℕ → Type 0) (e : Assignment) (f : FormulaTree) →
      Marks Q (take (n + period) (later_labels word (marks (true_ahead c e f) ws ++ drop n (marks (true_ahead c e f) ws)))) →
      Tells Q (true_ahead c e (later_tree word f))
  word-tells word Q e f h i l =
      let t = true_ahead c e f in
      iff-trans (test-tells Q (λ vs. first_of (later_labels word (marks_on c t vs)))
      (subst (Marks Q) (ap₂ take (period-is p n ws loops) (ap (later_labels word) (round-is t)) ∙
      sym (marks-made (later_labels word) (word-looks word) c t ws)) h) i l)
      (iff-path (λ (b : Bool). b ≡ true) (sym (word-first word c e f (drop i ws))))

  -- at which positions a formula holds, and its labels
  abbrev held : Assignment → FormulaTree → ℕ → Type 0
  held e f = Holds (situations_round p n ws) e f

  abbrev marked : Assignment → FormulaTree → List Bool
  marked e f = marks (true_ahead c e f) ws

  sized : (e : Assignment) (f : FormulaTree) → length (marked e f) ≡ n + period
  sized e f = size-is (true_ahead c e f)

  repeated : (e : Assignment) (f : FormulaTree) → Repeats n period rises (held e f)
  repeated e f = holds-again p n ws loops e f

  abbrev Until : Assignment → FormulaTree → FormulaTree → ℕ → Type 0
  Until e f h j = (k : ℕ) × (j ≤ k) × held e h k × ((m : ℕ) → j ≤ m → m < k → held e f m)

  -- a basic formula is read in the first world
  basic-tells : (test : Situation → Bool) → Tells (λ i. test (situations_round p n ws i) ≡ true) (in_first p test)
  basic-tells test i l =
      let v = there-is ws i l in
      iff-path (λ (b : Bool). b ≡ true) (ap test (situation-there p n ws loops i v.0 l (read-there ws i v.0 v.1)) ∙
      sym (ap (in_first p test) (opened-at ws i v.0 v.1)))

  situation-is : (i : ℕ) (w : World) → i < length ws → slice_get ws i ≡ Some w → situations_round p n ws i ≡ situation_of p w
  situation-is i w l q = situation-there p n ws loops i w l (read-there ws i w q)

  -- of until
  until-tells : (e : Assignment) (f h : FormulaTree) → Marks (Until e f h)
      (take (n + period) (until_labels (marks (true_ahead c e f) ws ++ drop n (marks (true_ahead c e f) ws))
      (marks (true_ahead c e h) ws ++ drop n (marks (true_ahead c e h) ws)))) → Tells (Until e f h) (true_ahead c e (until f h))
  unfolding true_ahead
  until-tells e f h k i l =
      let t = true_ahead c e f in
      let u = true_ahead c e h in
      test-tells (Until e f h) (λ vs. first_of (until_labels (marks_on c t vs) (marks_on c u vs)))
      (subst (Marks (Until e f h)) (ap₂ take (period-is p n ws loops) (ap₂ until_labels (round-is t) (round-is u)) ∙
      sym (marks-until c t u ws)) k) i l

  mutual
    unfolding Holds true_ahead

    pub holds-ahead : (e : Assignment) (f : FormulaTree) → Tells (Holds (situations_round p n ws) e f) (true_ahead c e f)
    holds-ahead e verum i l = truly
    holds-ahead e falsum i l = falsely
    holds-ahead e (atom q ts) i l = basic-tells (λ s. state_true s e (atom q ts)) i l
    holds-ahead e (defined q ts) i l = basic-tells (λ s. state_true s e (defined q ts)) i l
    holds-ahead e (compare o x y) i l = basic-tells (λ s. state_true s e (compare o x y)) i l
    holds-ahead e (goal_fact q xs) i l = basic-tells (λ s. state_true s e (goal_fact q xs)) i l
    holds-ahead e (goal_place k xs x) i l = basic-tells (λ s. state_true s e (goal_place k xs x)) i l
    holds-ahead e (goal_not q xs) i l = basic-tells (λ s. state_true s e (goal_not q xs)) i l
    holds-ahead e (negation f) i l = not-iff (holds-ahead e f i l)
    holds-ahead e (conjunction fs) i l = all-tell e fs i l
    holds-ahead e (disjunction fs) i l = one-tells e fs i l
    holds-ahead e (for_all ss b f) i l =
        let v = there-is ws i l in
        let all : Situation → Bool = λ s. list_all (λ t. true_ahead c (bind ss t e) f (drop i ws)) (tuples s e ss b) in
        iff-trans (iff-path (λ s. Each (λ t. Holds (situations_round p n ws) (bind ss t e) f i) (tuples s e ss b))
        (situation-is i v.0 l v.1))
        (iff-trans (all-iff (λ t. Holds (situations_round p n ws) (bind ss t e) f i) (λ t. true_ahead c (bind ss t e) f (drop i ws))
        (λ t. holds-ahead (bind ss t e) f i l) (tuples (situation_of p v.0) e ss b))
        (iff-path (λ (x : Bool). x ≡ true) (sym (ap (in_first p all) (opened-at ws i v.0 v.1)))))
    holds-ahead e (for_some ss b f) i l =
        let v = there-is ws i l in
        let any : Situation → Bool = λ s. list_any (λ t. true_ahead c (bind ss t e) f (drop i ws)) (tuples s e ss b) in
        iff-trans (iff-path (λ s. AtLeastOne (λ t. Holds (situations_round p n ws) (bind ss t e) f i) (tuples s e ss b))
        (situation-is i v.0 l v.1))
        (iff-trans (any-iff (λ t. Holds (situations_round p n ws) (bind ss t e) f i) (λ t. true_ahead c (bind ss t e) f (drop i ws))
        (λ t. holds-ahead (bind ss t e) f i l) (tuples (situation_of p v.0) e ss b))
        (iff-path (λ (x : Bool). x ≡ true) (sym (ap (in_first p any) (opened-at ws i v.0 v.1)))))
    holds-ahead e (next f) i l = word-tells later.Next (λ j. Holds (situations_round p n ws) e f (suc j)) e f
        (next-round n period rises (marked e f) (sized e f) (held e f) (repeated e f)
        (labels-tell (held e f) (true_ahead c e f) (holds-ahead e f))) i l
    holds-ahead e (always f) i l = word-tells later.Always (λ j. (k : ℕ) → j ≤ k → Holds (situations_round p n ws) e f k) e f
        (always-round n period rises (marked e f) (sized e f) (held e f) (repeated e f)
        (labels-tell (held e f) (true_ahead c e f) (holds-ahead e f))) i l
    holds-ahead e (eventually f) i l = word-tells later.Eventually (λ j. (k : ℕ) × (j ≤ k) × Holds (situations_round p n ws) e f k) e f
        (eventually-round n period rises (marked e f) (sized e f) (held e f) (repeated e f)
        (labels-tell (held e f) (true_ahead c e f) (holds-ahead e f))) i l
    holds-ahead e (until f h) i l = until-tells e f h (until-round n period rises (marked e f) (marked e h) (sized e f) (sized e h)
        (held e f) (held e h) (repeated e f) (repeated e h) (labels-tell (held e f) (true_ahead c e f) (holds-ahead e f))
        (labels-tell (held e h) (true_ahead c e h) (holds-ahead e h))) i l
    holds-ahead e (within m f) i l = word-tells (later.Within m) (λ j. (k : ℕ) × (j ≤ k) × (k ≤ j + m) ×
        Holds (situations_round p n ws) e f k) e f (within-round_of n period rises (marked e f) (sized e f) (held e f) (repeated e f)
        (labels-tell (held e f) (true_ahead c e f) (holds-ahead e f)) m) i l
    holds-ahead e (during m f) i l = word-tells (later.During m) (λ j. (k : ℕ) → j ≤ k → k ≤ j + m → Holds (situations_round p n ws) e f k)
        e f (during-round n period rises (marked e f) (sized e f) (held e f) (repeated e f)
        (labels-tell (held e f) (true_ahead c e f) (holds-ahead e f)) m) i l

    all-tell : (e : Assignment) (fs : FormulaTrees) → Tells (HoldAll (situations_round p n ws) e fs) (all_ahead c e fs)
    all-tell e no_formula i l = truly
    all-tell e (more_formulas f fs) i l = and-iff (holds-ahead e f i l) (all-tell e fs i l)

    one-tells : (e : Assignment) (fs : FormulaTrees) → Tells (HoldsOne (situations_round p n ws) e fs) (one_ahead c e fs)
    one-tells e no_formula i l = falsely
    one-tells e (more_formulas f fs) i l = or-iff (holds-ahead e f i l) (one-tells e fs i l)

  -- a formula holds at the start of the run exactly where it is true ahead
  pub satisfies-round : (f : FormulaTree) → Satisfies p (lasso_run p n ws) 0 f ↔ (true_ahead c no_values f ws ≡ true)
  unfolding SatisfiesAlong
  satisfies-round f = holds-ahead no_values f 0 (omega arith)

-- ---- a run by its worlds

take-front : (xs ys : List World) → take (length xs) (xs ++ ys) ≡ xs
take-front [] ys = refl
take-front (x ∷ xs) ys = ap (λ (zs : List World). x ∷ zs) (take-front xs ys)

drop-past : (xs ys : List World) → drop (length xs) (xs ++ ys) ≡ ys
drop-past [] ys = refl
drop-past (x ∷ xs) ys = drop-past xs ys

at-front : (xs ys : List World) (y d : World) → slice_index_or (xs ++ y ∷ ys) (length xs) d ≡ y
at-front [] ys y d = refl
at-front (x ∷ xs) ys y d = at-front xs ys y d

past-front : (xs ys : List World) (y : World) → drop (suc (length xs)) (xs ++ y ∷ ys) ≡ ys
past-front [] ys y = refl
past-front (x ∷ xs) ys y = past-front xs ys y

run-by : (s : List World) (w : World) (r : List World) (s2 : List World) (w2 : World) (r2 : List World) → s ≡ s2 → w ≡ w2 → r ≡ r2 →
    (let q : Run = record { stem = s; first = w; rest = r } in q) ≡ record { stem = s2; first = w2; rest = r2 }
run-by s w r s2 w2 r2 a b d = ap (λ (x : List World). record { stem = x; first = w; rest = r }) a ∙
    (ap (λ (x : World). record { stem = s2; first = x; rest = r }) b ∙
    ap (λ (x : List World). record { stem = s2; first = w2; rest = x }) d)

run-is : (p : PlainProblem) (r : Run) → lasso_run p (length r.stem) (worlds_of r) ≡ r
run-is p r =
    run-by (take (length r.stem) (worlds_of r)) (slice_index_or (worlds_of r) (length r.stem) p.first)
    (drop (length r.stem + 1) (worlds_of r)) r.stem r.first r.rest
    (take-front r.stem (r.first ∷ r.rest)) (at-front r.stem r.rest r.first p.first)
    (ap (λ (k : ℕ). drop k (worlds_of r)) (add-one (length r.stem)) ∙ past-front r.stem r.rest r.first)

-- a formula holds at the start of a run exactly where it is true ahead of its worlds
pub satisfies-ahead : (p : PlainProblem) (r : Run) (f : FormulaTree) → Satisfies p r 0 f ↔
    (true_ahead (course_of p r) no_values f (worlds_of r) ≡ true)
satisfies-ahead p r f =
    let loops : length r.stem < length (worlds_of r) = omega (arith, length-append r.stem (r.first ∷ r.rest)) in
    iff-trans (iff-path (λ (q : Run). Satisfies p q 0 f) (sym (run-is p r)))
    (iff-trans (satisfies-round p (length r.stem) (worlds_of r) loops f)
    (iff-path (λ (vs : List World). true_ahead (record { problem = p; again = vs }) no_values f (worlds_of r) ≡ true)
    (drop-past r.stem (r.first ∷ r.rest))))

-- ---- the run of a plan that ends

last-apart : (w : World) (ws : List World) → all_but_last w ws ++ last_of w ws ∷ [] ≡ w ∷ ws
last-apart w [] = refl
last-apart w (v ∷ ws) = ap (λ (vs : List World). w ∷ vs) (last-apart v ws)

last-again : (w : World) (ws : List World) → drop (length ws) (w ∷ ws) ≡ last_of w ws ∷ []
last-again w [] = refl
last-again w (v ∷ ws) = last-again v ws

-- a formula holds at its start exactly where it is true ahead of its states, of which the last comes again
pub satisfies-end : (p : PlainProblem) (w : World) (ws : List World) (f : FormulaTree) → Satisfies p (run_of w ws) 0 f ↔
    (true_ahead (course_from p (length ws) (w ∷ ws)) no_values f (w ∷ ws) ≡ true)
satisfies-end p w ws f =
    iff-trans (satisfies-ahead p (run_of w ws) f)
    (iff-path (λ (b : Bool). b ≡ true)
    (ap (λ (vs : List World). true_ahead (record { problem = p; again = vs }) no_values f (all_but_last w ws ++ last_of w ws ∷ []))
    (sym (last-again w ws)) ∙ ap (true_ahead (course_from p (length ws) (w ∷ ws)) no_values f) (last-apart w ws)))
