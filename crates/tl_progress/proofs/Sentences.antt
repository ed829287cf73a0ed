-- What has to hold next for a sentence is a sentence.
use Rattle.std.proofs.Common.{◌≡◌, ℕ, zero, suc, List, [], ◌∷◌, ◌++◌, map, filter, length, true, false, true≢false, cond, not, ◌==◌, ◌||◌}
use Rattle.std.proofs.Common.{Some, IsTrue, refl, sym, ◌∙◌, subst, arith}
use Rattle.std.specs.Prelude.{is_none}
use Rattle.tl_syntax.specs.declared.value.Value.{Value}
use Rattle.tl_syntax.specs.declared.variable.Var.{Var}
use Rattle.tl_syntax.specs.Assignment.{Assignment, bind}
use Rattle.tl_syntax.specs.Fits.{Fits, AllFit}
use Rattle.tl_syntax.specs.FreeVariables.{slots_of, bound_slots, is_slot_in, slots_without, free_slots, all_free_slots, InScope}
use Rattle.tl_syntax.specs.Lists.{Each}
use Rattle.tl_syntax.specs.Signature.{Signature}
use Rattle.tl_syntax.specs.Substitution.{substituted}
use Rattle.tl_syntax.specs.Trees.{FormulaTree, FormulaTrees, verum, falsum, atom, defined, compare, goal_fact, goal_place, goal_not}
use Rattle.tl_syntax.specs.Trees.{negation, conjunction, disjunction, for_all, for_some, next, always, eventually, until, within, during}
use Rattle.tl_syntax.specs.Trees.{no_formula, more_formulas}
use Rattle.tl_terms.proofs.FitsAlone.{fits-alone}
use Rattle.tl_syntax.proofs.ListLaws.{Each-append}
use Rattle.tl_syntax.proofs.SubstitutedFits.{formula-fits}
use Rattle.tl_syntax.proofs.SubstitutedLeaves.{formula-left}
use Rattle.tl_terms.specs.Bounds.{tuples}
use Rattle.tl_terms.specs.Progression.{progressed, progressed_all}
use Rattle.tl_terms.specs.Simplification.{simplified_and}
use Rattle.tl_terms.specs.Situation.{Situation}
use Rattle.tl_terms.proofs.ByParts.{EachOf, GoesByParts, of-and, of-or, of-not, of-constant, each-map}
use Rattle.tl_terms.proofs.Tuples.{all-tuples}
use Rattle.tl_progress.specs.Sentences.{IsSentence}

-- ---- fitting

fits-by-parts : (g : Signature) → GoesByParts (Fits g [])
unfolding Fits
fits-by-parts g = record {
  truth = tt;
  falsehood = tt;
  of_and = out;
  and_of = back;
  of_or = out;
  or_of = back;
  of_not = λ f h. h;
  not_of = λ f h. h;
}
  where
    out : (fs : FormulaTrees) → AllFit g [] fs → EachOf (Fits g []) fs
    out no_formula h = tt
    out (more_formulas f fs) h = (h.0, out fs h.1)

    back : (fs : FormulaTrees) → EachOf (Fits g []) fs → AllFit g [] fs
    back no_formula h = tt
    back (more_formulas f fs) h = (h.0, back fs h.1)

module _ (g : Signature) (s : Situation) where
  put-fits : (around : List ℕ) (e : Assignment) (f : FormulaTree) → Fits g around f → Fits g [] (substituted e f)
  put-fits around e f h = fits-alone g around (substituted e f) (formula-fits g around e f h)

  mutual
    unfolding progressed Fits

    fits-next : (around : List ℕ) (e : Assignment) (f : FormulaTree) → Fits g around f → Fits g [] (progressed s e f)
    fits-next around e verum h = tt
    fits-next around e falsum h = tt
    fits-next around e (atom p ts) h = of-constant (Fits g []) (fits-by-parts g) _
    fits-next around e (defined p ts) h = of-constant (Fits g []) (fits-by-parts g) _
    fits-next around e (compare c x y) h = of-constant (Fits g []) (fits-by-parts g) _
    fits-next around e (goal_fact p xs) h = of-constant (Fits g []) (fits-by-parts g) _
    fits-next around e (goal_place f xs x) h = of-constant (Fits g []) (fits-by-parts g) _
    fits-next around e (goal_not p xs) h = of-constant (Fits g []) (fits-by-parts g) _
    fits-next around e (negation f) h = of-not (Fits g []) (fits-by-parts g) (progressed s e f) (fits-next around e f h)
    fits-next around e (conjunction fs) h = of-and (Fits g []) (fits-by-parts g) (progressed_all s e fs) (all-fit-next around e fs h)
    fits-next around e (disjunction fs) h = of-or (Fits g []) (fits-by-parts g) (progressed_all s e fs) (all-fit-next around e fs h)
    fits-next around e (for_all ss b f) h =
        of-and (Fits g []) (fits-by-parts g) (map (λ t. progressed s (bind ss t e) f) (tuples s e ss b))
        (each-map (Fits g []) (fits-by-parts g) (λ t. progressed s (bind ss t e) f) (tuples s e ss b)
        (λ t _. fits-next (slots_of ss ++ around) (bind ss t e) f h.1))
    fits-next around e (for_some ss b f) h =
        of-or (Fits g []) (fits-by-parts g) (map (λ t. progressed s (bind ss t e) f) (tuples s e ss b))
        (each-map (Fits g []) (fits-by-parts g) (λ t. progressed s (bind ss t e) f) (tuples s e ss b)
        (λ t _. fits-next (slots_of ss ++ around) (bind ss t e) f h.1))
    fits-next around e (next f) h = put-fits around e f h
    fits-next around e (always f) h = of-and (Fits g []) (fits-by-parts g) (progressed s e f ∷ substituted e (always f) ∷ [])
        (fits-next around e f h, (put-fits around e (always f) h, tt))
    fits-next around e (eventually f) h = of-or (Fits g []) (fits-by-parts g) (progressed s e f ∷ substituted e (eventually f) ∷ [])
        (fits-next around e f h, (put-fits around e (eventually f) h, tt))
    fits-next around e (until f k) h =
        of-or (Fits g []) (fits-by-parts g) (progressed s e k ∷ simplified_and (progressed s e f ∷ substituted e (until f k) ∷ []) ∷ []) (
          fits-next around e k h.1,
          (
            of-and (Fits g []) (fits-by-parts g) (progressed s e f ∷ substituted e (until f k) ∷ [])
                (fits-next around e f h.0, (put-fits around e (until f k) h, tt)),
            tt,
          ),
        )
    fits-next around e (within zero f) h = fits-next around e f h
    fits-next around e (within (suc n) f) h = of-or (Fits g []) (fits-by-parts g) (progressed s e f ∷ substituted e (within n f) ∷ [])
        (fits-next around e f h, (put-fits around e (within n f) h, tt))
    fits-next around e (during zero f) h = fits-next around e f h
    fits-next around e (during (suc n) f) h = of-and (Fits g []) (fits-by-parts g) (progressed s e f ∷ substituted e (during n f) ∷ [])
        (fits-next around e f h, (put-fits around e (during n f) h, tt))

    all-fit-next : (around : List ℕ) (e : Assignment) (fs : FormulaTrees) → AllFit g around fs → Each (Fits g []) (progressed_all s e fs)
    all-fit-next around e no_formula h = tt
    all-fit-next around e (more_formulas f fs) h = (fits-next around e f h.0, all-fit-next around e fs h.1)

-- ---- free variables

-- the tree has none
abbrev Closed : FormulaTree → Type 0
Closed f = InScope [] (free_slots f)

closed-by-parts : GoesByParts Closed
unfolding free_slots
closed-by-parts = record {
  truth = tt;
  falsehood = tt;
  of_and = out;
  and_of = back;
  of_or = out;
  or_of = back;
  of_not = λ f h. h;
  not_of = λ f h. h;
}
  where
    out : (fs : FormulaTrees) → InScope [] (all_free_slots fs) → EachOf Closed fs
    out no_formula h = tt
    out (more_formulas f fs) h = let k = (Each-append (λ q. IsTrue (is_slot_in [] q)) (free_slots f) (all_free_slots fs)).0 h in
        (k.0, out fs k.1)

    back : (fs : FormulaTrees) → EachOf Closed fs → InScope [] (all_free_slots fs)
    back no_formula h = tt
    back (more_formulas f fs) h = (Each-append (λ q. IsTrue (is_slot_in [] q)) (free_slots f) (all_free_slots fs)).1 (h.0, back fs h.1)

-- each of these slots has a value
abbrev Valued : Assignment → List ℕ → Type 0
Valued e qs = Each (λ q. is_none (e q) ≡ false) qs

valued-both : (e : Assignment) (xs ys : List ℕ) → Valued e (xs ++ ys) → Valued e xs × Valued e ys
valued-both e xs ys h = (Each-append (λ q. is_none (e q) ≡ false) xs ys).0 h

-- the slots without a value are none
none-left : (e : Assignment) (qs : List ℕ) → Valued e qs → InScope [] (filter (λ q. is_none (e q)) qs)
none-left e [] h = tt
none-left e (q ∷ qs) h = (elim (is_none (e q)) as (λ b. b ≡ false → InScope []
    (cond b (q ∷ filter (λ k. is_none (e k)) qs) (filter (λ k. is_none (e k)) qs))) [
      | true ↦ λ k. absurd (true≢false k)
      | false ↦ λ k.
          none-left e qs h.1
    ]) h.0

put-closed : (e : Assignment) (f : FormulaTree) → Valued e (free_slots f) → Closed (substituted e f)
put-closed e f h = subst (InScope []) (sym (formula-left e f)) (none-left e (free_slots f) h)

-- the variables have values, and the others those that they had
bound-valued : (ss : List Var) (t : List Value) (e : Assignment) (q : ℕ) → length t ≡ length ss →
    (is_slot_in (slots_of ss) q ≡ false → is_none (e q) ≡ false) → is_none (bind ss t e q) ≡ false
bound-valued [] t e q l h = h refl
bound-valued (s ∷ ss) [] e q l h = absurd (let f : ⊥ = omega arith in f)
bound-valued (s ∷ ss) (v ∷ t) e q l h = (elim (q == s.slot) as (λ b. ((b || is_slot_in (slots_of ss) q) ≡ false → is_none (e q) ≡ false) →
    is_none (cond b (Some v) (bind ss t e q)) ≡ false) [ true ↦ λ k. refl | false ↦ λ k. bound-valued ss t e q (omega arith) k ]) h

valued-below : (ss : List Var) (t : List Value) (e : Assignment) (qs : List ℕ) → length t ≡ length ss →
    Valued e (slots_without (slots_of ss) qs) → Valued (bind ss t e) qs
valued-below ss t e [] l h = tt
valued-below ss t e (q ∷ qs) l h = (elim (is_slot_in (slots_of ss) q) as
    (λ b. is_slot_in (slots_of ss) q ≡ b → Valued e (cond (not b) (q ∷ slots_without (slots_of ss) qs) (slots_without (slots_of ss) qs)) →
    (is_none (bind ss t e q) ≡ false) × Valued (bind ss t e) qs) [
      | true ↦ λ x k. (bound-valued ss t e q l (λ z. absurd (true≢false (sym x ∙ z))), valued-below ss t e qs l k)
      | false ↦ λ x k. (bound-valued ss t e q l (λ z. k.0), valued-below ss t e qs l k.1)
    ]) refl h

module _ (g : Signature) (s : Situation) where
  mutual
    unfolding progressed Fits free_slots

    closed-next : (around : List ℕ) (e : Assignment) (f : FormulaTree) → Fits g around f → Valued e (free_slots f) →
        Closed (progressed s e f)
    closed-next around e verum h v = tt
    closed-next around e falsum h v = tt
    closed-next around e (atom p ts) h v = of-constant Closed closed-by-parts _
    closed-next around e (defined p ts) h v = of-constant Closed closed-by-parts _
    closed-next around e (compare c x y) h v = of-constant Closed closed-by-parts _
    closed-next around e (goal_fact p xs) h v = of-constant Closed closed-by-parts _
    closed-next around e (goal_place f xs x) h v = of-constant Closed closed-by-parts _
    closed-next around e (goal_not p xs) h v = of-constant Closed closed-by-parts _
    closed-next around e (negation f) h v = of-not Closed closed-by-parts (progressed s e f) (closed-next around e f h v)
    closed-next around e (conjunction fs) h v = of-and Closed closed-by-parts (progressed_all s e fs) (all-closed-next around e fs h v)
    closed-next around e (disjunction fs) h v = of-or Closed closed-by-parts (progressed_all s e fs) (all-closed-next around e fs h v)
    closed-next around e (for_all ss b f) h v =
        of-and Closed closed-by-parts (map (λ t. progressed s (bind ss t e) f) (tuples s e ss b))
        (each-map Closed closed-by-parts (λ t. progressed s (bind ss t e) f) (tuples s e ss b)
        (λ t m.
        let long = ((all-tuples s e ss b h.0.differ h.0.occur t).0 m).0 in
        closed-next (slots_of ss ++ around) (bind ss t e) f h.1 (valued-both (bind ss t e) (bound_slots b) (free_slots f)
        (valued-below ss t e (bound_slots b ++ free_slots f) long v)).1))
    closed-next around e (for_some ss b f) h v =
        of-or Closed closed-by-parts (map (λ t. progressed s (bind ss t e) f) (tuples s e ss b))
        (each-map Closed closed-by-parts (λ t. progressed s (bind ss t e) f) (tuples s e ss b)
        (λ t m.
        let long = ((all-tuples s e ss b h.0.differ h.0.occur t).0 m).0 in
        closed-next (slots_of ss ++ around) (bind ss t e) f h.1 (valued-both (bind ss t e) (bound_slots b) (free_slots f)
        (valued-below ss t e (bound_slots b ++ free_slots f) long v)).1))
    closed-next around e (next f) h v = put-closed e f v
    closed-next around e (always f) h v = of-and Closed closed-by-parts (progressed s e f ∷ substituted e (always f) ∷ [])
        (closed-next around e f h v, (put-closed e (always f) v, tt))
    closed-next around e (eventually f) h v = of-or Closed closed-by-parts (progressed s e f ∷ substituted e (eventually f) ∷ [])
        (closed-next around e f h v, (put-closed e (eventually f) v, tt))
    closed-next around e (until f k) h v =
        let both = valued-both e (free_slots f) (free_slots k) v in
        of-or Closed closed-by-parts (progressed s e k ∷ simplified_and (progressed s e f ∷ substituted e (until f k) ∷ []) ∷ []) (
          closed-next around e k h.1 both.1,
          (
            of-and Closed closed-by-parts (progressed s e f ∷ substituted e (until f k) ∷ [])
                (closed-next around e f h.0 both.0, (put-closed e (until f k) v, tt)),
            tt,
          ),
        )
    closed-next around e (within zero f) h v = closed-next around e f h v
    closed-next around e (within (suc n) f) h v = of-or Closed closed-by-parts (progressed s e f ∷ substituted e (within n f) ∷ [])
        (closed-next around e f h v, (put-closed e (within n f) v, tt))
    closed-next around e (during zero f) h v = closed-next around e f h v
    closed-next around e (during (suc n) f) h v = of-and Closed closed-by-parts (progressed s e f ∷ substituted e (during n f) ∷ [])
        (closed-next around e f h v, (put-closed e (during n f) v, tt))

    all-closed-next : (around : List ℕ) (e : Assignment) (fs : FormulaTrees) → AllFit g around fs → Valued e (all_free_slots fs) →
        Each Closed (progressed_all s e fs)
    all-closed-next around e no_formula h v = tt
    all-closed-next around e (more_formulas f fs) h v = let both = valued-both e (free_slots f) (all_free_slots fs) v in
        (closed-next around e f h.0 both.0, all-closed-next around e fs h.1 both.1)

-- no slot is free, so each has a value
closed-valued : (e : Assignment) (qs : List ℕ) → InScope [] qs → Valued e qs
closed-valued e [] h = tt
closed-valued e (q ∷ qs) h = absurd (true≢false (sym h.0))

pub sentence-next : (g : Signature) (s : Situation) (e : Assignment) (f : FormulaTree) → IsSentence g f → IsSentence g (progressed s e f)
sentence-next g s e f h = record {
  fits = fits-next g s [] e f h.fits;
  closed =
      closed-next g s [] e f h.fits (closed-valued e (free_slots f) h.closed);
}
