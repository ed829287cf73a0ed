-- What a formula looks at along some worlds.
use Rattle.std.proofs.Common.{◌≡◌, ◌≤◌, ◌+◌, ◌⊎◌, ◌∙◌, ℕ, zero, suc, List, [], ◌∷◌, map, flat_map, take, drop, length, length-drop, cond}
use Rattle.std.proofs.Common.{nat_le, Bool, true, false, true≢false, Option, Some, None, refl, sym, ap, subst, inl, inr, arith}
use Rattle.std.specs.Prelude.{slice_get}
use Rattle.std.proofs.lemmas.Bool.{le-leb, leb-true}
use Rattle.std.proofs.lemmas.List.{take_all}
use Rattle.tl_check.specs.Ahead.{Course}
use Rattle.tl_check.specs.Labelled.{ComesAt, worlds_up_to, looked_there, looked_at}
use Rattle.tl_check.specs.Later.{later_tree}
use Rattle.tl_check.specs.Rounds.{course_from}
use Rattle.tl_check.specs.declared.later.Later.{Later}
use Rattle.tl_check.specs.declared.later.Later.TheVariants as later
use Rattle.tl_syntax.specs.declared.junction.Junction.{Junction}
use Rattle.tl_syntax.specs.declared.junction.Junction.TheVariants.{All, Any}
use Rattle.tl_syntax.specs.Junctions.{joined, quantified}
use Rattle.tl_syntax.proofs.ListLaws.{One-append, One-flat, One-over, one_in, one_out}
use Rattle.tl_syntax.specs.declared.bound.Bound.{Bound}
use Rattle.tl_syntax.specs.declared.value.Value.{Value}
use Rattle.tl_syntax.specs.declared.variable.Var.{Var}
use Rattle.tl_syntax.specs.Assignment.{Assignment, bind, no_values}
use Rattle.tl_syntax.specs.Lists.{AtLeastOne, Among}
use Rattle.tl_syntax.specs.Trees.{FormulaTree, FormulaTrees, verum, falsum, atom, defined, compare, goal_fact, goal_place, goal_not}
use Rattle.tl_syntax.specs.Trees.{negation, conjunction, disjunction, for_all, for_some, next, always, eventually, until, within, during}
use Rattle.tl_syntax.specs.Trees.{no_formula, more_formulas, formulas_of_list}
use Rattle.tl_terms.specs.Bounds.{tuples}
use Rattle.tl_terms.specs.Definitions.{situation_of}
use Rattle.tl_terms.specs.Looked.{LookedTable, followed_if, looked_in_turn, looked_in_state, looked_in_and, looked_in_or, looked_in_basics}
use Rattle.tl_terms.specs.Looked.{looked_in_parts, looked_after, looked_along, looks_of}
use Rattle.tl_terms.specs.Operations.{Operation}
use Rattle.tl_terms.specs.Problem.{PlainProblem}
use Rattle.tl_terms.specs.Situation.{Situation}
use Rattle.tl_terms.specs.World.{World}

-- ---- lists of operations

pub one-within-each : {A : Type 0} (P Q : A → Type 0) → ((x : A) → P x → Q x) → (xs : List A) → AtLeastOne P xs → AtLeastOne Q xs
one-within-each P Q h [] k = k
one-within-each P Q h (x ∷ xs) k = elim k [ inl m ↦ inl (h x m) | inr m ↦ inr (one-within-each P Q h xs m) ]

followed-out : (o : Operation) (b : Bool) (xs ys : List Operation) → Among o (followed_if b xs ys) → Among o xs ⊎ Among o ys
followed-out o true xs ys h = (One-append (λ y. y ≡ o) xs ys).0 h
followed-out o false xs ys h = elim ((One-append (λ y. y ≡ o) xs []).0 h) [ inl k ↦ inl k | inr b ↦ absurd b ]

turn-out : (o : Operation) (looked : List Value → List Operation) (goes_on : List Value → Bool) (ts : List (List Value)) →
    Among o (looked_in_turn looked goes_on ts) → AtLeastOne (λ t. Among o (looked t)) ts
turn-out o looked goes_on [] h = absurd h
turn-out o looked goes_on (t ∷ ts) h = elim (followed-out o (goes_on t) (looked t)
    (looked_in_turn looked goes_on ts) h) [ inl k ↦ inl k | inr k ↦ inr (turn-out o looked goes_on ts k) ]

-- the instances of the tuples of one situation are among those of all
instances-in : (o : Operation) (e : Assignment) (ss : List Var) (b : Bound) (bs : List Situation) (s : Situation)
    (looked : List Value → List Operation) → Among s bs
    → AtLeastOne (λ t. Among o (looked t)) (tuples s e ss b) → Among o (flat_map looked (flat_map (λ q. tuples q e ss b) bs))
instances-in o e ss b bs s looked m h =
    (One-flat (λ y. y ≡ o) looked (flat_map (λ q. tuples q e ss b) bs)).1
    ((One-flat (λ t. Among o (looked t)) (λ q. tuples q e ss b) bs).1 (one_in
    (λ q. AtLeastOne (λ t. Among o (looked t)) (tuples q e ss b)) s bs m h))

-- ---- what a formula looks at in a state, it looks at along the worlds

module _ (d : LookedTable) (bs : List Situation) (s : Situation) (m : Among s bs) (o : Operation) where
  mutual
    unfolding looked_in_state looked_in_basics

    pub state-basics : (e : Assignment) (f : FormulaTree) → Among o (looked_in_state d s e f) → Among o (looked_in_basics true d bs s e f)
    state-basics e verum h = absurd h
    state-basics e falsum h = absurd h
    state-basics e (atom q ts) h = h
    state-basics e (defined q ts) h = h
    state-basics e (compare c x y) h = h
    state-basics e (goal_fact q xs) h = absurd h
    state-basics e (goal_place k xs x) h = absurd h
    state-basics e (goal_not q xs) h = absurd h
    state-basics e (negation f) h = state-basics e f h
    state-basics e (conjunction fs) h = and-parts e fs h
    state-basics e (disjunction fs) h = or-parts e fs h
    state-basics e (for_all ss b f) h =
        instances-in o e ss b bs s (λ t. looked_in_basics true d bs s (bind ss t e) f) m
        (one-within-each (λ t. Among o (looked_in_state d s (bind ss t e) f)) (λ t. Among o (looked_in_basics true d bs s (bind ss t e) f))
        (λ t k. state-basics (bind ss t e) f k) (tuples s e ss b) (turn-out o _ _ (tuples s e ss b) h))
    state-basics e (for_some ss b f) h =
        instances-in o e ss b bs s (λ t. looked_in_basics true d bs s (bind ss t e) f) m
        (one-within-each (λ t. Among o (looked_in_state d s (bind ss t e) f)) (λ t. Among o (looked_in_basics true d bs s (bind ss t e) f))
        (λ t k. state-basics (bind ss t e) f k) (tuples s e ss b) (turn-out o _ _ (tuples s e ss b) h))
    state-basics e (next f) h = absurd h
    state-basics e (always f) h = absurd h
    state-basics e (eventually f) h = absurd h
    state-basics e (until f g) h = absurd h
    state-basics e (within n f) h = absurd h
    state-basics e (during n f) h = absurd h

    and-parts : (e : Assignment) (fs : FormulaTrees) → Among o (looked_in_and d s e fs) → Among o (looked_in_parts true d bs s e fs)
    and-parts e no_formula h = absurd h
    and-parts e (more_formulas f fs) h = (One-append (λ y. y ≡ o) (looked_in_basics true d bs s e f) (looked_in_parts true d bs s e fs)).1
        (elim (followed-out o _ (looked_in_state d s e f) (looked_in_and d s e fs) h) [
          | inl k ↦ inl (state-basics e f k)
          | inr k ↦ inr
              (and-parts e fs k)
        ])

    or-parts : (e : Assignment) (fs : FormulaTrees) → Among o (looked_in_or d s e fs) → Among o (looked_in_parts true d bs s e fs)
    or-parts e no_formula h = absurd h
    or-parts e (more_formulas f fs) h = (One-append (λ y. y ≡ o) (looked_in_basics true d bs s e f) (looked_in_parts true d bs s e fs)).1
        (elim (followed-out o _ (looked_in_state d s e f) (looked_in_or d s e fs) h) [
          | inl k ↦ inl (state-basics e f k)
          | inr k ↦ inr
              (or-parts e fs k)
        ])

-- ---- where more bounds may be true, no less is looked at

module _ (d : LookedTable) (bs cs : List Situation) (more : (q : Situation) → Among q bs → Among q cs) (s : Situation) (o : Operation) where
  instances-more : (e : Assignment) (ss : List Var) (b : Bound) (looked wider : List Value → List Operation) →
      ((t : List Value) → Among o (looked t) → Among o (wider t)) → Among o (flat_map looked (flat_map (λ q. tuples q e ss b) bs)) →
      Among o (flat_map wider (flat_map (λ q. tuples q e ss b) cs))
  instances-more e ss b looked wider step h =
      let each = (One-flat (λ t. Among o (looked t)) (λ q. tuples q e ss b) bs).0
      ((One-flat (λ y. y ≡ o) looked (flat_map (λ q. tuples q e ss b) bs)).0 h) in
      let found = one_out (λ q. AtLeastOne (λ t. Among o (looked t)) (tuples q e ss b)) bs each in
      instances-in o e ss b cs found.0 wider (more found.0 found.1.0) (one-within-each (λ t. Among o (looked t))
      (λ t. Among o (wider t)) step (tuples found.0 e ss b) found.1.1)

  mutual
    unfolding looked_in_basics

    pub basics-more : (e : Assignment) (f : FormulaTree) → Among o (looked_in_basics true d bs s e f) →
        Among o (looked_in_basics true d cs s e f)
    basics-more e verum h = absurd h
    basics-more e falsum h = absurd h
    basics-more e (atom q ts) h = h
    basics-more e (defined q ts) h = h
    basics-more e (compare c x y) h = h
    basics-more e (goal_fact q xs) h = absurd h
    basics-more e (goal_place k xs x) h = absurd h
    basics-more e (goal_not q xs) h = absurd h
    basics-more e (negation f) h = basics-more e f h
    basics-more e (conjunction fs) h = parts-more e fs h
    basics-more e (disjunction fs) h = parts-more e fs h
    basics-more e (for_all ss b f) h = instances-more e ss b (λ t. looked_in_basics true d bs s (bind ss t e) f)
        (λ t. looked_in_basics true d cs s (bind ss t e) f) (λ t k. basics-more (bind ss t e) f k) h
    basics-more e (for_some ss b f) h = instances-more e ss b (λ t. looked_in_basics true d bs s (bind ss t e) f)
        (λ t. looked_in_basics true d cs s (bind ss t e) f) (λ t k. basics-more (bind ss t e) f k) h
    basics-more e (next f) h = basics-more e f h
    basics-more e (always f) h = basics-more e f h
    basics-more e (eventually f) h = basics-more e f h
    basics-more e (until f g) h = (One-append (λ y. y ≡ o) (looked_in_basics true d cs s e f) (looked_in_basics true d cs s e g)).1
        (elim ((One-append (λ y. y ≡ o) (looked_in_basics true d bs s e f) (looked_in_basics true d bs s e g)).0 h) [
          | inl k ↦ inl
              (basics-more e f k)
          | inr k ↦ inr (basics-more e g k)
        ])
    basics-more e (within n f) h = basics-more e f h
    basics-more e (during n f) h = basics-more e f h

    parts-more : (e : Assignment) (fs : FormulaTrees) → Among o (looked_in_parts true d bs s e fs) →
        Among o (looked_in_parts true d cs s e fs)
    parts-more e no_formula h = absurd h
    parts-more e (more_formulas f fs) h = (One-append (λ y. y ≡ o) (looked_in_basics true d cs s e f) (looked_in_parts true d cs s e fs)).1
        (elim ((One-append (λ y. y ≡ o) (looked_in_basics true d bs s e f) (looked_in_parts true d bs s e fs)).0 h) [
          | inl k ↦ inl
              (basics-more e f k)
          | inr k ↦ inr (parts-more e fs k)
        ])

-- ---- along some worlds

among-first : (ws : List World) (j k : ℕ) (w : World) → slice_get ws j ≡ Some w → j ≤ k → Among w (take (suc k) ws)
among-first [] j k w h l = absurd (let z : ⊥ = cc in z)
among-first (v ∷ ws) zero k w h l = inl (let q : v ≡ w = cc in q)
among-first (v ∷ ws) (suc j) zero w h l = absurd (omega arith)
among-first (v ∷ ws) (suc j) (suc k) w h l = inr (among-first ws j k w h (omega arith))

among-all : (ws : List World) (j : ℕ) (w : World) → slice_get ws j ≡ Some w → Among w ws
among-all [] j w h = absurd (let z : ⊥ = cc in z)
among-all (v ∷ ws) zero w h = inl (let q : v ≡ w = cc in q)
among-all (v ∷ ws) (suc j) w h = inr (among-all ws j w h)

pub comes-later : (p : Course) (ws : List World) (i j k : ℕ) → i ≤ j → ComesAt p ws j k → ComesAt p ws i k
comes-later p ws i j k h c = elim c [ inl l ↦ inl (omega arith) | inr l ↦ inr l ]

-- a world is among those that come up to any position that comes at its own or after it
among-up_to : (p : Course) (ws : List World) (j k : ℕ) (w : World) → slice_get ws j ≡ Some w → ComesAt p ws j k →
    Among w (worlds_up_to p ws k)
among-up_to p ws j k w h c = by (nat_le (length ws) (k + length p.again)) refl
  where
    by : (b : Bool) → nat_le (length ws) (k + length p.again) ≡ b → Among w (cond b ws (take (suc k) ws))
    by true q = among-all ws j w h
    by false q = elim c [
      | inl l ↦ among-first ws j k w h l
      | inr l ↦ absurd (true≢false (sym (le-leb (length ws) (k + length p.again) l) ∙ q))
    ]

among-situations : (p : PlainProblem) (ws : List World) (w : World) → Among w ws → Among (situation_of p w) (map (situation_of p) ws)
among-situations p ws w h = (One-over (λ s. s ≡ situation_of p w) (situation_of p) ws).1
    (one-within-each (λ v. v ≡ w) (λ v. situation_of p v ≡ situation_of p w) (λ v q. ap (situation_of p) q) ws h)

module _ (p : Course) (ws : List World) (o : Operation) where
  -- what a formula looks at in the world at a position
  pub state-looked : (e : Assignment) (f : FormulaTree) (k : ℕ) (w : World) → slice_get ws k ≡ Some w →
      Among o (looked_in_state (looks_of p.problem w) (situation_of p.problem w) e f) → Among o (looked_at p ws k e f)
  state-looked e f k w q h =
      subst (λ (x : Option World). Among o (looked_there p.problem (worlds_up_to p ws k) x e f)) (sym q)
      (state-basics (looks_of p.problem w) (map (situation_of p.problem) (worlds_up_to p ws k)) (situation_of p.problem w)
      (among-situations p.problem (worlds_up_to p ws k) w (among-up_to p ws k k w q (inl (omega arith)))) o e f h)

  -- what its part looks at
  pub within-there : (e d : Assignment) (f g : FormulaTree) (k : ℕ) → ((t : LookedTable) (bs : List Situation) (s : Situation) →
      Among o (looked_in_basics true t bs s d g) → Among o (looked_in_basics true t bs s e f))
      → Among o (looked_at p ws k d g) → Among o (looked_at p ws k e f)
  within-there e d f g k step h = by (slice_get ws k) h
    where
      by : (x : Option World) → Among o (looked_there p.problem (worlds_up_to p ws k) x d g) →
          Among o (looked_there p.problem (worlds_up_to p ws k) x e f)
      by None m = absurd m
      by (Some w) m = step (looks_of p.problem w) (map (situation_of p.problem) (worlds_up_to p ws k)) (situation_of p.problem w) m

  pub not-looked : (e : Assignment) (f : FormulaTree) (k : ℕ) → Among o (looked_at p ws k e f) → Among o (looked_at p ws k e (negation f))
  unfolding looked_in_basics
  not-looked e f k h = within-there e e (negation f) f k (λ t bs s m. m) h

  pub word-looked : (word : Later) (e : Assignment) (f : FormulaTree) (k : ℕ) → Among o (looked_at p ws k e f) →
      Among o (looked_at p ws k e (later_tree word f))
  unfolding looked_in_basics
  word-looked later.Next e f k h = within-there e e (later_tree later.Next f) f k (λ t bs s m. m) h
  word-looked later.Always e f k h = within-there e e (later_tree later.Always f) f k (λ t bs s m. m) h
  word-looked later.Eventually e f k h = within-there e e (later_tree later.Eventually f) f k (λ t bs s m. m) h
  word-looked (later.Within n) e f k h = within-there e e (later_tree (later.Within n) f) f k (λ t bs s m. m) h
  word-looked (later.During n) e f k h = within-there e e (later_tree (later.During n) f) f k (λ t bs s m. m) h

  pub until-first-looked : (e : Assignment) (f g : FormulaTree) (k : ℕ) → Among o (looked_at p ws k e f) →
      Among o (looked_at p ws k e (until f g))
  unfolding looked_in_basics
  until-first-looked e f g k h = within-there e e (until f g) f k (λ t bs s m.
      (One-append (λ y. y ≡ o) (looked_in_basics true t bs s e f) (looked_in_basics true t bs s e g)).1 (inl m)) h

  pub until-second-looked : (e : Assignment) (f g : FormulaTree) (k : ℕ) → Among o (looked_at p ws k e g) →
      Among o (looked_at p ws k e (until f g))
  unfolding looked_in_basics
  until-second-looked e f g k h = within-there e e (until f g) g k (λ t bs s m.
      (One-append (λ y. y ≡ o) (looked_in_basics true t bs s e f) (looked_in_basics true t bs s e g)).1 (inr m)) h

  parts-in : (t : LookedTable) (bs : List Situation) (s : Situation) (e : Assignment) (fs : List FormulaTree) (g : FormulaTree) →
      Among g fs → Among o (looked_in_basics true t bs s e g) → Among o (looked_in_parts true t bs s e (formulas_of_list fs))
  unfolding looked_in_basics
  parts-in t bs s e [] g m h = absurd m
  parts-in t bs s e (f ∷ fs) g m h = (One-append (λ y. y ≡ o) (looked_in_basics true t bs s e f)
      (looked_in_parts true t bs s e (formulas_of_list fs))).1
      (elim m [
        | inl q ↦ inl (subst (λ x. Among o (looked_in_basics true t bs s e x)) (sym q) h)
        | inr k ↦ inr
            (parts-in t bs s e fs g k h)
      ])

  pub part-looked : (e : Assignment) (junction : Junction) (fs : List FormulaTree) (g : FormulaTree) (k : ℕ) → Among g fs →
      Among o (looked_at p ws k e g) → Among o (looked_at p ws k e (joined junction (formulas_of_list fs)))
  unfolding looked_in_basics
  part-looked e Any fs g k i h = within-there e e (joined Any (formulas_of_list fs)) g k (λ t bs s m. parts-in t bs s e fs g i m) h
  part-looked e All fs g k i h = within-there e e (joined All (formulas_of_list fs)) g k (λ t bs s m. parts-in t bs s e fs g i m) h

  -- what an instance looks at whose tuple makes the bound true in an earlier world
  pub instance-looked : (e : Assignment) (junction : Junction) (ss : List Var) (b : Bound) (f : FormulaTree) (t : List Value) (j k : ℕ)
      (v : World) → slice_get ws j ≡ Some v → ComesAt p ws j k → Among t (tuples (situation_of p.problem v) e ss b)
      → Among o (looked_at p ws k (bind ss t e) f) → Among o (looked_at p ws k e (quantified junction ss b f))
  unfolding looked_in_basics
  instance-looked e junction ss b f t j k v q l i h = by (slice_get ws k) h
    where
      there : Among (situation_of p.problem v) (map (situation_of p.problem) (worlds_up_to p ws k))
      there = among-situations p.problem (worlds_up_to p ws k) v (among-up_to p ws j k v q l)

      by_stop : (junction : Junction) (w : World) → Among o (looked_there p.problem (worlds_up_to p ws k) (Some w) (bind ss t e) f) →
          Among o (looked_there p.problem (worlds_up_to p ws k) (Some w) e (quantified junction ss b f))
      by_stop Any w m = instances-in o e ss b (map (situation_of p.problem) (worlds_up_to p ws k)) (situation_of p.problem v)
          (λ u. looked_in_basics true (looks_of p.problem w) (map (situation_of p.problem) (worlds_up_to p ws k)) (situation_of p.problem w)
          (bind ss u e) f) there
          (one_in (λ u. Among o (looked_in_basics true (looks_of p.problem w) (map (situation_of p.problem) (worlds_up_to p ws k))
          (situation_of p.problem w) (bind ss u e) f)) t (tuples (situation_of p.problem v) e ss b) i m)
      by_stop All w m = instances-in o e ss b (map (situation_of p.problem) (worlds_up_to p ws k)) (situation_of p.problem v)
          (λ u. looked_in_basics true (looks_of p.problem w) (map (situation_of p.problem) (worlds_up_to p ws k)) (situation_of p.problem w)
          (bind ss u e) f) there
          (one_in (λ u. Among o (looked_in_basics true (looks_of p.problem w) (map (situation_of p.problem) (worlds_up_to p ws k))
          (situation_of p.problem w) (bind ss u e) f)) t (tuples (situation_of p.problem v) e ss b) i m)

      by : (x : Option World) → Among o (looked_there p.problem (worlds_up_to p ws k) x (bind ss t e) f) →
          Among o (looked_there p.problem (worlds_up_to p ws k) x e (quantified junction ss b f))
      by None m = absurd m
      by (Some w) m = by_stop junction w m

-- the control formula along the states of a plan that ends: the last of them comes again
pub along-looked : (p : PlainProblem) (w : World) (ws : List World) (n : ℕ) (o : Operation) (f : FormulaTree) (k : ℕ) → n ≡ length ws →
    Among o (looked_at (course_from p n (w ∷ ws)) (w ∷ ws) k no_values f) → Among o (looked_along p (w ∷ ws) k f)
unfolding looked_along
along-looked p w ws n o f k last h = by (slice_get (w ∷ ws) k) (subst (λ (vs : List World).
    Among o (looked_there p vs (slice_get (w ∷ ws) k) no_values f)) (up (nat_le (length (w ∷ ws)) (k + length (drop n (w ∷ ws)))) refl) h)
  where
    up : (b : Bool) → nat_le (length (w ∷ ws)) (k + length (drop n (w ∷ ws))) ≡ b → cond b (w ∷ ws) (take (suc k) (w ∷ ws)) ≡
        take (suc k) (w ∷ ws)
    up true q = sym (take_all (suc k) (w ∷ ws) (let l = leb-true (length (w ∷ ws)) (k + length (drop n (w ∷ ws))) q in let d =
        length-drop n (w ∷ ws) in omega arith))
    up false q = refl

    by : (x : Option World) → Among o (looked_there p (take (suc k) (w ∷ ws)) x no_values f) →
        Among o (looked_after p (take (suc k) (w ∷ ws)) x f)
    by None m = absurd m
    by (Some v) m = m

pub among-front : (n : ℕ) (ws : List World) (w : World) → Among w (take n ws) → Among w ws
among-front zero ws w m = absurd m
among-front (suc n) [] w m = absurd m
among-front (suc n) (v ∷ ws) w m = elim m [ inl q ↦ inl q | inr r ↦ inr (among-front n ws w r) ]

among-some : (c : Course) (ws : List World) (k : ℕ) (w : World) → Among w (worlds_up_to c ws k) → Among w ws
among-some c ws k w m = by (nat_le (length ws) (k + length c.again)) m
  where
    by : (b : Bool) → Among w (cond b ws (take (suc k) ws)) → Among w ws
    by true h = h
    by false h = among-front (suc k) ws w h

-- the control formula along the states of a plan that goes round: each tuple makes its bound true in one of them
pub round-looked : (c : Course) (ws : List World) (o : Operation) (f : FormulaTree) (k : ℕ) → Among o (looked_at c ws k no_values f) →
    Among o (looked_after c.problem ws (slice_get ws k) f)
round-looked c ws o f k h = by (slice_get ws k) h
  where
    more : (q : Situation) → Among q (map (situation_of c.problem) (worlds_up_to c ws k)) → Among q (map (situation_of c.problem) ws)
    more q m =
        let found = one_out (λ w. situation_of c.problem w ≡ q) (worlds_up_to c ws k)
        ((One-over (λ s. s ≡ q) (situation_of c.problem) (worlds_up_to c ws k)).0 m) in
        (One-over (λ s. s ≡ q) (situation_of c.problem) ws).1 (one_in (λ w. situation_of c.problem w ≡ q) found.0 ws
        (among-some c ws k found.0 found.1.0) found.1.1)

    by : (x : Option World) → Among o (looked_there c.problem (worlds_up_to c ws k) x no_values f) → Among o (looked_after c.problem ws x f)
    by None m = absurd m
    by (Some w) m = basics-more (looks_of c.problem w) (map (situation_of c.problem) (worlds_up_to c ws k))
        (map (situation_of c.problem) ws) more (situation_of c.problem w) o no_values f m
