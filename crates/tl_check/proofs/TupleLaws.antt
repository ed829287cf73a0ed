-- The tuples of quantifiers.
use Rattle.std.proofs.Common.{◌≡◌, ◌<◌, ◌-◌, ℕ, zero, suc, List, [], ◌∷◌, ◌++◌, map, length, true, false, true≢false, Option, Some, None}
use Rattle.std.proofs.Common.{IsSome, refl, sym, ap, ◌∙◌, subst, inl, inr, arith, append_assoc, append-nil}
use Rattle.std.specs.Global.{Vec}
use Rattle.std.specs.HashMap.{get}
use Rattle.std.specs.Prelude.{slice_get}
use Rattle.tl_check.proofs.AtomLaws.{opened-at}
use Rattle.tl_check.proofs.HistoryLaws.{there-is}
use Rattle.tl_check.proofs.InstanceLaws.{same-by}
use Rattle.tl_check.proofs.SpanLaws.{test_from-marks_in}
use Rattle.tl_check.specs.Facts.{Guides, bound_ahead}
use Rattle.tl_check.specs.Gathered.{IsTuple, TellTuples, TellWhere}
use Rattle.tl_check.specs.Lines.{truth_from, test_in}
use Rattle.tl_check.specs.Spans.{IsWithin, marks_in}
use Rattle.tl_check.specs.Tracks.{Lines, changes_in, line_in, fact_with}
use Rattle.tl_check.specs.Tuples.{HaveTuples}
use Rattle.tl_check.specs.declared.line.Change.{Change}
use Rattle.tl_check.specs.declared.span.Span.{Span}
use Rattle.tl_check.specs.declared.tracks.Tracks.{Tracks}
use Rattle.tl_eval.proofs.TupleRest.{rest_after, all-after-none, rest-none, rest-some}
use Rattle.tl_syntax.specs.declared.bound.Bound.{Bound}
use Rattle.tl_syntax.specs.declared.fact.Fact.{Fact}
use Rattle.tl_syntax.specs.declared.value.Value.{Value}
use Rattle.tl_syntax.specs.declared.variable.Var.{Var}
use Rattle.tl_syntax.specs.Assignment.{Assignment, bind}
use Rattle.tl_syntax.specs.BoundVariables.{DifferInSlot, OccurIn}
use Rattle.tl_syntax.specs.DerivedTests.{fact_eq}
use Rattle.tl_syntax.specs.Lists.{Each, Among}
use Rattle.tl_terms.proofs.Tuples.{all-tuples}
use Rattle.tl_terms.specs.Bounds.{bound_true, tuples}
use Rattle.tl_terms.specs.Definitions.{situation_of}
use Rattle.tl_terms.specs.Problem.{PlainProblem}
use Rattle.tl_terms.specs.Situation.{Situation}
use Rattle.tl_terms.specs.World.{World}
use Rattle.tl_match.specs.Next.{IsNext}

-- ---- the tuples in one world, as they are read

-- the facts so far and those of the tuples that are left are those of all
abbrev pub IsReading : Situation → Assignment → List Var → Bound → Option (List Value) → List Fact → Type 0
IsReading s e ss b after fs = fs ++ map (fact_with 0) (rest_after after (tuples s e ss b)) ≡ map (fact_with 0) (tuples s e ss b)

module _ (s : Situation) (e : Assignment) (ss : List Var) (b : Bound) (d : DifferInSlot ss) (o : OccurIn ss b) where
  abbrev Reading : Option (List Value) → List Fact → Type 0
  Reading after fs = IsReading s e ss b after fs

  pub reading-begun : (after : Option (List Value)) (fs : List Fact) → after ≡ None → fs ≡ [] → Reading after fs
  reading-begun after fs none empty =
      ap (λ (us : List Fact). us ++ map (fact_with 0) (rest_after after (tuples s e ss b))) empty
      ∙ ap (map (fact_with 0)) (ap (λ (x : Option (List Value)). rest_after x (tuples s e ss b)) none ∙
      sym (all-after-none (tuples s e ss b)))

  module _ (after : Option (List Value)) (t : List Value) (next : IsNext (length ss) (λ t. bound_true s (bind ss t e) b) after (Some t))
    where
      rest-is : rest_after after (tuples s e ss b) ≡ t ∷ rest_after (Some t) (tuples s e ss b)
      rest-is = rest-some s e ss b d o after t next

      pub reading-fewer : length (rest_after (Some t) (tuples s e ss b)) < length (rest_after after (tuples s e ss b))
      reading-fewer = let size : length (rest_after after (tuples s e ss b)) ≡ suc (length (rest_after (Some t) (tuples s e ss b))) =
          ap length rest-is in omega arith

      pub reading-on : (fs gs : List Fact) (f : Fact) → f ≡ fact_with 0 t → gs ≡ fs ++ f ∷ [] → Reading after fs → Reading (Some t) gs
      reading-on fs gs f is more so =
          let rest = map (fact_with 0) (rest_after (Some t) (tuples s e ss b)) in
          ap (λ (us : List Fact). us ++ rest) (more ∙ ap (λ (g : Fact). fs ++ g ∷ []) is)
          ∙ (append_assoc fs (fact_with 0 t ∷ []) rest ∙ (ap (λ (ts : List (List Value)). fs ++ map (fact_with 0) ts) (sym rest-is) ∙ so))

  pub reading-end : (after next : Option (List Value)) (fs : List Fact) →
      IsNext (length ss) (λ t. bound_true s (bind ss t e) b) after next → next ≡ None → Reading after fs → fs ≡
      map (fact_with 0) (tuples s e ss b)
  reading-end after next fs h none so =
      let empty : rest_after after (tuples s e ss b) ≡ [] = rest-none s e ss b d o after
      (subst (IsNext (length ss) (λ t. bound_true s (bind ss t e) b) after) none h) in
      sym (append-nil fs) ∙ (ap (λ (ts : List (List Value)). fs ++ map (fact_with 0) ts) (sym empty) ∙ so)

-- ---- the tuples by which a quantifier is labelled

fact-in : (a : List Value) (ts : List (List Value)) → Among a ts → Among (fact_with 0 a) (map (fact_with 0) ts)
fact-in a [] m = absurd m
fact-in a (t ∷ ts) m = elim m [ inl q ↦ inl (ap (fact_with 0) q) | inr k ↦ inr (fact-in a ts k) ]

some-changes : (o : Option (Vec Change)) (i : ℕ) → truth_from false (changes_in o) i ≡ true → IsSome o
some-changes None i h = absurd (true≢false (sym h))
some-changes (Some v) i h = refl

module _ (p : PlainProblem) (ws : List World) (e : Assignment) (ss : List Var) (b : Bound) (span : Span) where
  -- those that were seen in the states
  pub gathered-have : (t : Tracks) → TellTuples p ws e ss b span t → HaveTuples p ws e ss b span t.seen.items
  gathered-have t tell = record {
    covered = λ a k w low high at m. tell.covered (fact_with 0 a) (some-changes (get fact_eq t.lines (fact_with 0 a)) k
        ((tell.tell a k w low high at).1 m));
    counts = tell.counts;
  }

  module _ (d : DifferInSlot ss) (o : OccurIn ss b) where
    -- those of a world that has them all
    pub guided-have : (guide : World) → Guides p ws b guide → (fs : List Fact) → fs ≡
        map (fact_with 0) (tuples (situation_of p guide) e ss b) → HaveTuples p ws e ss b span fs
    guided-have guide guides fs is = record {
      covered = λ a k w low high at m. (
          let known = (all-tuples (situation_of p w) e ss b d o a).0 m in
          subst (Among (fact_with 0 a)) (sym is) (fact-in a (tuples (situation_of p guide) e ss b)
          ((all-tuples (situation_of p guide) e ss b d o a).1 (known.0, guides (bind ss a e) w (found ws k w at) known.1)))
          );
      counts = subst (Each (IsTuple (length ss))) (sym is) (each (tuples (situation_of p guide) e ss b)
          (λ a m. ((all-tuples (situation_of p guide) e ss b d o a).0 m).0));
    }
      where
        found : (us : List World) (i : ℕ) (v : World) → slice_get us i ≡ Some v → Among v us
        found [] i v h = absurd (let z : ⊥ = cc in z)
        found (u ∷ us) zero v h = inl (let z : u ≡ v = cc in z)
        found (u ∷ us) (suc i) v h = inr (found us i v h)

        each : (ts : List (List Value)) → ((a : List Value) → Among a ts → length a ≡ length ss) →
            Each (IsTuple (length ss)) (map (fact_with 0) ts)
        each [] h = tt
        each (t ∷ ts) h = ((refl, h t (inl refl)), each ts (λ a m. h a (inr m)))

    -- where the tuple of a fact makes the bound true
    pub tuple-labels : (lines : Lines) → TellWhere p ws e ss b span lines → IsWithin span (length ws) → (f : Fact) → IsTuple (length ss) f →
        test_in (truth_from false (line_in lines f)) span ≡ marks_in (bound_ahead p (bind ss f.args e) b) ws span
    tuple-labels lines tell within f is = test_from-marks_in (truth_from false (line_in lines f))
        (bound_ahead p (bind ss f.args e) b) ws span within (λ i h l. (
        let room = within.within in
        let v = there-is ws i (omega arith) in
        let told = tell f.args i v.0 h l v.1 in
        let are = all-tuples (situation_of p v.0) e ss b d o f.args in
        ap (λ (g : Fact). truth_from false (line_in lines g) i) is.0
        ∙ (same-by true (truth_from false (line_in lines (fact_with 0 f.args)) i) (bound_true (situation_of p v.0) (bind ss f.args e) b)
        (λ t. (are.0 (told.0 t)).1) (λ t. told.1 (are.1 (is.1, t)))
        ∙ sym (ap (bound_ahead p (bind ss f.args e) b) (opened-at ws i v.0 v.1)))
        ))
