-- Acceptance depends on the last pair alone, and a FALSE residual begins no sequence of worlds that satisfies the formula.
use Rattle.std.proofs.Common.{Option, None, ◌≡◌, ℕ, zero, suc, ◌+◌, ◌-◌, ◌%◌, ◌<◌, ◌↔◌, List, [], ◌∷◌, length, slice_index_or, true, cond}
use Rattle.std.proofs.Common.{nat_lt, Some, refl, sym, ap, ◌∙◌, subst, inl, inr, arith}
use borrow.Author.Tests.{le-ltb, lt-ltb}
use native.Mathlib.Decide.{dec_lt}
use Rattle.tl_terms.specs.Acceptance.{states, last_of, all_but_last, run_of, IsAccepted}
use Rattle.tl_syntax.specs.Assignment.{Assignment, no_values, bind}
use Rattle.tl_terms.specs.Bounds.{tuples}
use Rattle.tl_terms.specs.Definitions.{situation_of}
use Rattle.tl_syntax.specs.Lists.{Each, AtLeastOne}
use Rattle.tl_terms.specs.Pairs.{residual, Pair, pair_after, pair_of, IsPairAccepted}
use Rattle.tl_terms.specs.Problem.{PlainProblem}
use Rattle.tl_terms.specs.Progression.{progressed}
use Rattle.tl_terms.specs.Run.{Situations, Holds, HoldAll, HoldsOne, Run, Worlds, state_at, situations_of, Satisfies, SatisfiesAlong}
use Rattle.tl_terms.specs.Run.{idle_run, Begins}
use Rattle.tl_syntax.specs.Trees.{FormulaTree, verum, falsum, atom, defined, compare, goal_fact, goal_place, goal_not, negation}
use Rattle.tl_syntax.specs.Trees.{conjunction, disjunction, for_all, for_some, next, always, eventually, until, within, during}
use Rattle.tl_syntax.specs.Trees.{FormulaTrees, no_formula, more_formulas}
use Rattle.tl_terms.specs.Truth.{state_true}
use Rattle.tl_terms.specs.World.{World}
use Rattle.tl_syntax.proofs.ListLaws.{iff-trans, iff-path, Each-map, One-map}
use Rattle.tl_terms.proofs.FailTogether.{FailTogether, hold-both}
use Rattle.tl_terms.proofs.RunLaws.{Satisfies-decided, progression-along}
use Rattle.tl_syntax.specs.declared.action.Action.{Action}

-- ---- a formula sees only the states from its position on

module _ (r q : Situations) where
  Same : ℕ → ℕ → Type 0
  Same i j = (k : ℕ) → r (i + k) ≡ q (j + k)

  later : (i j m : ℕ) → Same i j → Same (i + m) (j + m)
  unfolding Same
  later i j m s k = ap r (let e : i + m + k ≡ i + (m + k) = omega arith in e) ∙
      (s (m + k) ∙ ap q (let e : j + (m + k) ≡ j + m + k = omega arith in e))

  here : (i j : ℕ) → Same i j → r i ≡ q j
  unfolding Same
  here i j s = ap r (let e : i ≡ i + 0 = omega arith in e) ∙ (s 0 ∙ ap q (let e : j + 0 ≡ j = omega arith in e))

  mutual
    unfolding Holds

    suffix : (e : Assignment) (f : FormulaTree) (i j : ℕ) → Same i j → Holds r e f i ↔ Holds q e f j
    suffix e verum i j s = (λ h. h, λ h. h)
    suffix e falsum i j s = (λ h. h, λ h. h)
    suffix e (atom p ts) i j s = iff-path (λ w. state_true w e (atom p ts) ≡ true) (here i j s)
    suffix e (defined p ts) i j s = iff-path (λ w. state_true w e (defined p ts) ≡ true) (here i j s)
    suffix e (compare c x y) i j s = iff-path (λ w. state_true w e (compare c x y) ≡ true) (here i j s)
    suffix e (goal_fact p xs) i j s = iff-path (λ w. state_true w e (goal_fact p xs) ≡ true) (here i j s)
    suffix e (goal_place k xs x) i j s = iff-path (λ w. state_true w e (goal_place k xs x) ≡ true) (here i j s)
    suffix e (goal_not p xs) i j s = iff-path (λ w. state_true w e (goal_not p xs) ≡ true) (here i j s)
    suffix e (negation f) i j s = (λ h k. h ((suffix e f i j s).1 k), λ h k. h ((suffix e f i j s).0 k))
    suffix e (conjunction fs) i j s = suffix_all e fs i j s
    suffix e (disjunction fs) i j s = suffix_one e fs i j s
    suffix e (for_all ss b f) i j s =
        iff-trans
        (Each-map (λ t. suffix (bind ss t e) f i j s) (tuples (r i) e ss b))
        (iff-path (λ w. Each (λ t. Holds q (bind ss t e) f j) (tuples w e ss b)) (here i j s))
    suffix e (for_some ss b f) i j s =
        iff-trans
        (One-map (λ t. suffix (bind ss t e) f i j s) (tuples (r i) e ss b))
        (iff-path (λ w. AtLeastOne (λ t. Holds q (bind ss t e) f j) (tuples w e ss b)) (here i j s))
    suffix e (next f) i j s =
        iff-trans (iff-path (Holds r e f) (let k : suc i ≡ i + 1 = omega arith in k))
        (iff-trans (suffix e f (i + 1) (j + 1) (later i j 1 s)) (iff-path (Holds q e f) (let k : j + 1 ≡ suc j = omega arith in k)))
    suffix e (always f) i j s = (
      λ h b p. subst (Holds q e f) (let k : j + (b - j) ≡ b = omega arith in k)
          ((suffix e f (i + (b - j)) (j + (b - j)) (later i j (b - j) s)).0 (h (i + (b - j)) (omega arith))),
      λ h b p. subst (Holds r e f) (let k : i + (b - i) ≡ b = omega arith in k)
          ((suffix e f (i + (b - i)) (j + (b - i)) (later i j (b - i) s)).1 (h (j + (b - i)) (omega arith))),
    )
    suffix e (eventually f) i j s = (
      λ h. let m : ℕ = h.0 - i in (
        j + m,
        omega arith,
        (suffix e f (i + m) (j + m) (later i j m s)).0
            (subst (Holds r e f) (let k : h.0 ≡ i + (h.0 - i) = omega arith in k) h.2),
      ),
      λ h. let m : ℕ = h.0 - j in (
        i + m,
        omega arith,
        (suffix e f (i + m) (j + m) (later i j m s)).1
            (subst (Holds q e f) (let k : h.0 ≡ j + (h.0 - j) = omega arith in k) h.2),
      ),
    )
    suffix e (until f g) i j s = (
      λ h. let m : ℕ = h.0 - i in (
        j + m,
        omega arith,
        (suffix e g (i + m) (j + m) (later i j m s)).0 (subst (Holds r e g) (let k : h.0 ≡ i + (h.0 - i) = omega arith in k) h.2),
        λ b p t. subst (Holds q e f) (let k : j + (b - j) ≡ b = omega arith in k)
            ((suffix e f (i + (b - j)) (j + (b - j)) (later i j (b - j) s)).0 (h.3 (i + (b - j)) (omega arith) (omega arith))),
      ),
      λ h. let m : ℕ = h.0 - j in (
        i + m,
        omega arith,
        (suffix e g (i + m) (j + m) (later i j m s)).1 (subst (Holds q e g) (let k : h.0 ≡ j + (h.0 - j) = omega arith in k) h.2),
        λ b p t. subst (Holds r e f) (let k : i + (b - i) ≡ b = omega arith in k)
            ((suffix e f (i + (b - i)) (j + (b - i)) (later i j (b - i) s)).1 (h.3 (j + (b - i)) (omega arith) (omega arith))),
      ),
    )
    suffix e (within n f) i j s = (
      λ h. let m : ℕ = h.0 - i in (
        j + m,
        omega arith,
        omega arith,
        (suffix e f (i + m) (j + m) (later i j m s)).0
            (subst (Holds r e f) (let k : h.0 ≡ i + (h.0 - i) = omega arith in k) h.3),
      ),
      λ h. let m : ℕ = h.0 - j in (
        i + m,
        omega arith,
        omega arith,
        (suffix e f (i + m) (j + m) (later i j m s)).1
            (subst (Holds q e f) (let k : h.0 ≡ j + (h.0 - j) = omega arith in k) h.3),
      ),
    )
    suffix e (during n f) i j s = (
      λ h b p t. subst (Holds q e f) (let k : j + (b - j) ≡ b = omega arith in k)
          ((suffix e f (i + (b - j)) (j + (b - j)) (later i j (b - j) s)).0 (h (i + (b - j)) (omega arith) (omega arith))),
      λ h b p t. subst (Holds r e f) (let k : i + (b - i) ≡ b = omega arith in k)
          ((suffix e f (i + (b - i)) (j + (b - i)) (later i j (b - i) s)).1 (h (j + (b - i)) (omega arith) (omega arith))),
    )

    suffix_all : (e : Assignment) (fs : FormulaTrees) (i j : ℕ) → Same i j → HoldAll r e fs i ↔ HoldAll q e fs j
    suffix_all e no_formula i j s = (λ h. h, λ h. h)
    suffix_all e (more_formulas f fs) i j s = (
      λ h. ((suffix e f i j s).0 h.0, (suffix_all e fs i j s).0 h.1),
      λ h.
          ((suffix e f i j s).1 h.0, (suffix_all e fs i j s).1 h.1),
    )

    suffix_one : (e : Assignment) (fs : FormulaTrees) (i j : ℕ) → Same i j → HoldsOne r e fs i ↔ HoldsOne q e fs j
    suffix_one e no_formula i j s = (λ h. h, λ h. h)
    suffix_one e (more_formulas f fs) i j s = (
      elim [ inl h ↦ inl ((suffix e f i j s).0 h) | inr h ↦ inr ((suffix_one e fs i j s).0 h) ],
      elim [ inl h ↦ inl ((suffix e f i j s).1 h) | inr h ↦ inr ((suffix_one e fs i j s).1 h) ],
    )

-- ---- along a list of worlds

pub residual-along : (p : PlainProblem) (s : Worlds) (i : ℕ) (ws : List World) (f : FormulaTree) → Begins s i ws
    → FailTogether (SatisfiesAlong p s i f) (SatisfiesAlong p s (i + length ws) (residual p ws f))
unfolding residual
residual-along p s i [] f b = iff-path (λ j. SatisfiesAlong p s j f → ⊥) (let k : i ≡ i + 0 = omega arith in k)
residual-along p s i (w ∷ ws) f b =
    let g : FormulaTree = progressed (situation_of p w) no_values f in
    iff-trans (progression-along p s i f)
    (iff-trans (iff-path (λ v. SatisfiesAlong p s (suc i) (progressed (situation_of p v) no_values f) → ⊥) b.0)
    (iff-trans (residual-along p s (suc i) ws g b.1)
    (iff-path (λ j. SatisfiesAlong p s j (residual p ws g) → ⊥) (let k : suc i + length ws ≡ i + suc (length ws) = omega arith in k))))

pub residual-Satisfies : (p : PlainProblem) (r : Run) (i : ℕ) (ws : List World) (f : FormulaTree) → Begins (state_at r) i ws
    → Satisfies p r i f ↔ Satisfies p r (i + length ws) (residual p ws f)
residual-Satisfies p r i ws f b =
    hold-both (Satisfies-decided p r i f) (Satisfies-decided p r (i + length ws) (residual p ws f)) (residual-along p (state_at r) i ws f b)

never : (p : PlainProblem) (s : Worlds) (i : ℕ) → SatisfiesAlong p s i falsum → ⊥
unfolding SatisfiesAlong Holds
never p s i h = h

-- a branch whose residual is FALSE begins no infinite sequence of worlds that satisfies the formula
pub pruned-right : (p : PlainProblem) (s : Worlds) (ws : List World) (f : FormulaTree) → residual p ws f ≡ falsum → Begins s 0 ws
    → SatisfiesAlong p s 0 f → ⊥
pruned-right p s ws f e b =
    (residual-along p s 0 ws f b).1 (subst (λ g. SatisfiesAlong p s (0 + length ws) g → ⊥) (sym e) (never p s (0 + length ws)))

-- ---- the run of a plan

lt-suc : (i n : ℕ) → nat_lt (suc i) (suc n) ≡ nat_lt i n
lt-suc i n = elim (dec_lt i n) [
  | yes h ↦ lt-ltb (suc i) (suc n) (omega arith) ∙
      sym (lt-ltb i n h)
  | no h ↦ le-ltb (suc i) (suc n) (omega arith) ∙ sym (le-ltb i n (omega arith))
]

one_left : {A : Type 0} (a : A) (k : ℕ) → slice_index_or (a ∷ []) k a ≡ a
one_left a zero = refl
one_left a (suc k) = refl

stem_at : (w : World) (ws : List World) (i : ℕ) → cond (nat_lt i (length (all_but_last w ws)))
    (slice_index_or (all_but_last w ws) i (last_of w ws)) (last_of w ws) ≡ slice_index_or (w ∷ ws) i (last_of w ws)
stem_at w [] i = ap (λ b. cond b w w) (le-ltb i 0 (omega arith)) ∙ sym (one_left w i)
stem_at w (v ∷ ws) zero = ap (λ b. cond b w (last_of v ws)) (lt-ltb zero (suc (length (all_but_last v ws))) (omega arith))
stem_at w (v ∷ ws) (suc i) = ap (λ b. cond b (slice_index_or (all_but_last v ws) i (last_of v ws)) (last_of v ws))
    (lt-suc i (length (all_but_last v ws))) ∙ stem_at v ws i

state-run_of : (w : World) (ws : List World) (i : ℕ) → state_at (run_of w ws) i ≡ slice_index_or (w ∷ ws) i (last_of w ws)
unfolding state_at
state-run_of w ws i = ap (λ v. cond (nat_lt i (length (all_but_last w ws))) (slice_index_or (all_but_last w ws) i (last_of w ws)) v)
    (one_left (last_of w ws) ((i - length (all_but_last w ws)) % 1)) ∙ stem_at w ws i

pub state-idle : (w : World) (i : ℕ) → state_at (idle_run w) i ≡ w
state-idle w i = state-run_of w [] i ∙ one_left w i

past_end : (ws : List World) (d : World) (k : ℕ) → slice_index_or ws (length ws + k) d ≡ d
past_end [] d k = refl
past_end (w ∷ ws) d k = ap (λ j. slice_index_or (w ∷ ws) j d) (let e : suc (length ws) + k ≡ suc (length ws + k) = omega arith in e) ∙
    past_end ws d k

begins_by : (r : Run) (ws : List World) (d : World) (i : ℕ) → ((k : ℕ) → k < length ws → state_at r (i + k) ≡ slice_index_or ws k d)
    → Begins (state_at r) i ws
begins_by r [] d i h = tt
begins_by r (w ∷ ws) d i h = (
  ap (state_at r) (let e : i ≡ i + 0 = omega arith in e) ∙ h 0 (omega arith),
  begins_by r ws d (suc i) (λ k q. ap (state_at r) (let e : suc i + k ≡ i + suc k = omega arith in e) ∙ h (suc k) (omega arith)),
)

pub begins-run_of : (w : World) (ws : List World) → Begins (state_at (run_of w ws)) 0 (w ∷ ws)
begins-run_of w ws = begins_by (run_of w ws) (w ∷ ws) (last_of w ws) 0
    (λ k q. ap (state_at (run_of w ws)) (let e : 0 + k ≡ k = omega arith in e) ∙ state-run_of w ws k)

end : (p : PlainProblem) (w : World) (ws : List World) (g : FormulaTree) → Satisfies p (run_of w ws) (0 + length (w ∷ ws)) g ↔
    Satisfies p (idle_run (last_of w ws)) 0 g
unfolding SatisfiesAlong Same
end p w ws g = suffix (situations_of p (run_of w ws)) (situations_of p (idle_run (last_of w ws))) no_values g (0 + length (w ∷ ws)) 0
    (λ k. ap (λ v. situation_of p v)
    (ap (state_at (run_of w ws)) (let e : 0 + length (w ∷ ws) + k ≡ length (w ∷ ws) + k = omega arith in e) ∙
    (state-run_of w ws (length (w ∷ ws) + k) ∙ (past_end (w ∷ ws) (last_of w ws) k ∙ sym (state-idle (last_of w ws) (0 + k))))))

-- the control formula holds along a plan's states exactly where what is left of it holds on the last one for ever
pub obeys-idles : (p : PlainProblem) (w : World) (ws : List World) (f : FormulaTree)
    → Satisfies p (run_of w ws) 0 f ↔ Satisfies p (idle_run (last_of w ws)) 0 (residual p (w ∷ ws) f)
obeys-idles p w ws f = iff-trans (residual-Satisfies p (run_of w ws) 0 (w ∷ ws) f (begins-run_of w ws)) (end p w ws (residual p (w ∷ ws) f))

-- a plan that executes is accepted exactly where its pair is
pub accepted-pair : (p : PlainProblem) (plan : List Action) (w : World) (ws : List World) → states p plan ≡ Some (w ∷ ws)
    → IsPairAccepted p (record { world = last_of w ws; formula = residual p (w ∷ ws) p.control }) → IsAccepted p plan
accepted-pair p plan w ws e h = record {
  from = w;
  after = ws;
  executes = e;
  reaches = h.reaches;
  obeys =
      (obeys-idles p w ws p.control).1 h.idles;
}

pub pair-accepted : (p : PlainProblem) (plan : List Action) (a : IsAccepted p plan) →
    IsPairAccepted p (record { world = last_of a.from a.after; formula = residual p (a.from ∷ a.after) p.control })
pair-accepted p plan a = record { reaches = a.reaches; idles = (obeys-idles p a.from a.after p.control).0 a.obeys }

-- a plan is accepted exactly where it executes and its pair is accepted
pub accepted-exactly : (p : PlainProblem) (plan : List Action) → IsAccepted p plan ↔
    ((x : Pair) × (pair_of p plan ≡ Some x) × IsPairAccepted p x)
accepted-exactly p plan = (
  λ a. (
    record { world = last_of a.from a.after; formula = residual p (a.from ∷ a.after) p.control },
    ap (pair_after p) a.executes,
    pair-accepted p plan a,
  ),
  λ h. by_states (states p plan) refl h.0 h.1 h.2,
)
  where
    by_states : (o : Option (List World)) → states p plan ≡ o → (x : Pair) → pair_after p o ≡ Some x → IsPairAccepted p x →
        IsAccepted p plan
    by_states None e x q h = cc
    by_states (Some []) e x q h = cc
    by_states (Some (w ∷ ws)) e x q h = accepted-pair p plan w ws e (subst (IsPairAccepted p)
        (let d : x ≡ record { world = last_of w ws; formula = residual p (w ∷ ws) p.control } = cc in d) h)

-- the same with the empty front left out
pub residual-law : (p : PlainProblem) (r : Run) (ws : List World) (f : FormulaTree) → Begins (state_at r) 0 ws
    → Satisfies p r 0 f ↔ Satisfies p r (length ws) (residual p ws f)
residual-law p r ws f b = iff-trans (residual-Satisfies p r 0 ws f b) (iff-path (λ j. Satisfies p r j (residual p ws f))
    (let k : 0 + length ws ≡ length ws = omega arith in k))

-- of two plans with one pair both are accepted or none
pub acceptance-by-pair : (p : PlainProblem) (plan other : List Action) → pair_of p plan ≡ pair_of p other → IsAccepted p plan ↔
    IsAccepted p other
acceptance-by-pair p plan other e =
    iff-trans (accepted-exactly p plan)
    (iff-trans (iff-path (λ o. (x : Pair) × (o ≡ Some x) × IsPairAccepted p x) e) (let k = accepted-exactly p other in (k.1, k.0)))
