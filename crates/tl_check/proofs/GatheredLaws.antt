-- The tuples of a bound along some states, and the labels of a quantifier by them.
use Rattle.std.proofs.Common.{◌≡◌, ◌≤◌, ◌<◌, ◌+◌, ◌-◌, ◌↔◌, ◌⊎◌, ℕ, zero, suc, List, [], ◌∷◌, ◌++◌, take, length, Bool, true, false}
use Rattle.std.proofs.Common.{true≢false, Option, Some, None, Equal, refl, sym, ap, ◌∙◌, subst, inl, inr, arith}
use Rattle.std.specs.Cmp.{tied_itself}
use Rattle.std.specs.Ordering.{is_lt}
use Rattle.std.specs.Prelude.{slice_get}
use native.Mathlib.Decide.{dec_lt}
use Rattle.tl_check.proofs.HistoryLaws.{each-added}
use Rattle.tl_check.proofs.LineLaws.{truth-before_change, truth-past_change, before-added}
use Rattle.tl_check.specs.Gathered.{GoesOn, BeginsAt, HoldsIn, IsNoted, IsTuple, TellTuples}
use Rattle.tl_check.specs.Lines.{truth_from, AreBefore}
use Rattle.tl_check.specs.Tracks.{Lines, line_in, fact_with, HaveSeenAll, SeesOne}
use Rattle.tl_action.specs.declared.check_fault.CheckFault.TheVariants as fault
use Rattle.tl_check.specs.declared.line.Change.{Change}
use Rattle.tl_check.specs.declared.span.Span.{Span}
use Rattle.tl_check.specs.declared.tracks.Tracks.{Tracks}
use Rattle.tl_eval.proofs.TupleRest.{later, rest_after, all-after-none, rest-none, rest-some}
use Rattle.tl_syntax.proofs.ListLaws.{Among-filter}
use Rattle.tl_syntax.proofs.Plain.{fact-tells}
use Rattle.tl_syntax.specs.declared.bound.Bound.{Bound}
use Rattle.tl_syntax.specs.declared.fact.Fact.{Fact}
use Rattle.tl_syntax.specs.declared.value.Value.{Value}
use Rattle.tl_syntax.specs.declared.variable.Var.{Var}
use Rattle.tl_syntax.specs.Assignment.{Assignment, bind}
use Rattle.tl_syntax.specs.BoundVariables.{DifferInSlot, OccurIn}
use Rattle.tl_syntax.specs.DerivedTests.{fact_eq}
use Rattle.tl_syntax.specs.Lists.{Each, Among}
use Rattle.tl_terms.proofs.Tuples.{all-tuples}
use Rattle.tl_terms.specs.Bounds.{bound_true, tuples}
use Rattle.tl_terms.specs.Definitions.{situation_of}
use Rattle.tl_terms.specs.Problem.{PlainProblem}
use Rattle.tl_terms.specs.Situation.{Situation}
use Rattle.tl_terms.specs.World.{World}
use Rattle.tl_rows.proofs.Lookup.{row_total}
use Rattle.tl_match.specs.Next.{IsNext}
use Rattle.tl_rows.specs.Plain.{row_cmp}

-- ---- the changes of one tuple

before-weaker : (m n : ℕ) (cs : List Change) → m ≤ n → AreBefore m cs → AreBefore n cs
before-weaker m n [] l h = tt
before-weaker m n (c ∷ cs) l h = ((let first = h.0 in omega arith), before-weaker m n cs l h.1)

before-front : (n : ℕ) (xs ys : List Change) → AreBefore n (xs ++ ys) → AreBefore n xs × AreBefore n ys
before-front n [] ys h = (tt, h)
before-front n (x ∷ xs) ys h = let r = before-front n xs ys h.1 in ((h.0, r.0), r.1)

all-but : (xs : List Change) (x : Change) (ys : List Change) (n : ℕ) → ys ≡ xs ++ x ∷ [] → n ≡ length ys → take (n - 1) ys ≡ xs
all-but xs x ys n q size = ap (λ (zs : List Change). take (n - 1) zs) q ∙
    by xs (n - 1) (let e : length ys ≡ length xs + 1 = ap length q ∙ longer xs in omega arith)
  where
    longer : (zs : List Change) → length (zs ++ x ∷ []) ≡ length zs + 1
    longer [] = refl
    longer (z ∷ zs) = let e = longer zs in omega arith

    by : (zs : List Change) (m : ℕ) → m ≡ length zs → take m (zs ++ x ∷ []) ≡ zs
    by [] zero h = refl
    by [] (suc m) h = absurd (omega arith)
    by (z ∷ zs) zero h = absurd (omega arith)
    by (z ∷ zs) (suc m) h = ap (λ (us : List Change). z ∷ us) (by zs m (omega arith))

-- the fact holds from a new change on
pub begun-anew : (at : ℕ) (old new : List Change) (c : Change) → c.at ≡ at → c.truth ≡ true → new ≡ old ++ c ∷ [] → BeginsAt at old new
begun-anew at old new c place holds q b = record {
  earlier = λ k h. ap (λ (cs : List Change). truth_from false cs k) q ∙ truth-before_change false old c k (omega (arith, place, h));
  there = λ k h. ap (λ (cs : List Change). truth_from false cs k) q ∙ (truth-past_change false old c k
      (before-weaker (at + 1) (k + 1) old (omega (arith, h)) b) (omega (arith, place, h)) ∙ holds);
  bounded = subst (AreBefore (at + 1)) (sym q) (before-added (at + 1) old c b (omega (arith, place)));
}

-- or without the change that ended what held
pub begun-on : (at n : ℕ) (old new : List Change) → GoesOn at old → n ≡ length old → new ≡ take (n - 1) old → BeginsAt at old new
begun-on at n old new on size q b =
    let kept = on.front ++ on.before ∷ [] in
    let is : new ≡ kept = q ∙ all-but kept on.last old n on.whole size in
    let both = before-front (at + 1) kept (on.last ∷ []) (subst (AreBefore (at + 1)) on.whole b) in
    let parts = before-front (at + 1) on.front (on.before ∷ []) both.0 in
    let place = on.place in
    let early = parts.1.0 in
    record {
      earlier = λ k h. ap (λ (cs : List Change). truth_from false cs k) is ∙
          (sym (truth-before_change false kept on.last k (omega (arith, place, h))) ∙
          ap (λ (cs : List Change). truth_from false cs k) (sym on.whole));
      there = λ k h. ap (λ (cs : List Change). truth_from false cs k) is ∙
          (truth-past_change false on.front on.before k (before-weaker (at + 1) (k + 1) on.front (omega (arith, h)) parts.0)
          (omega (arith, h, early)) ∙ on.holds);
      bounded = subst (AreBefore (at + 1)) (sym is) both.0;
    }

-- and no more from the end of the span on
pub span-added : (span : Span) (old mid new : List Change) (c : Change) → span.from < span.to → c.at ≡ span.to → c.truth ≡ false →
    BeginsAt span.from old mid → new ≡ mid ++ c ∷ [] → HoldsIn span old new
span-added span old mid new c some place ends begins q b =
    let m = begins b in
    record {
      earlier = λ k h. ap (λ (cs : List Change). truth_from false cs k) q ∙
          (truth-before_change false mid c k (omega (arith, place, h, some)) ∙ m.earlier k h);
      there = λ k h l. ap (λ (cs : List Change). truth_from false cs k) q ∙
          (truth-before_change false mid c k (omega (arith, place, l)) ∙ m.there k h);
      ended = λ k h. ap (λ (cs : List Change). truth_from false cs k) q ∙
          (truth-past_change false mid c k (before-weaker (span.from + 1) (k + 1) mid (omega (arith, some, h)) m.bounded)
          (omega (arith, place, h)) ∙ ends);
      bounded = subst (AreBefore (span.to + 1)) (sym q) (before-added (span.to + 1) mid c
          (before-weaker (span.from + 1) (span.to + 1) mid (omega (arith, some)) m.bounded) (omega (arith, place)));
    }

-- ---- the changes of all tuples

pub one-counts : (n : ℕ) (fact : Fact) (old new : List Fact) → SeesOne fact old new → IsTuple n fact → Each (IsTuple n) old →
    Each (IsTuple n) new
one-counts n fact old new sees is h = elim sees [
  | inl q ↦ subst (Each (IsTuple n)) (sym q) h
  | inr q ↦ each-added
      (IsTuple n) old new fact q h is
]

pub fact-is_tuple : (n : ℕ) (f : Fact) (t : List Value) → f ≡ fact_with 0 t → length t ≡ n → IsTuple n f
fact-is_tuple n f t q h = (q ∙ ap (fact_with 0) (sym (ap (λ (g : Fact). g.args) q)), ap (λ (g : Fact). length g.args) q ∙ h)

module _ (all : List (List Value)) (here : Span) (old : Lines) where
  -- the tuples up to those that are left are told to hold in the span
  pub record Noting (rest : List (List Value)) (now : Lines) : Type 0 where
    pub left : (a : List Value) → Among a rest → line_in now (fact_with 0 a) ≡ line_in old (fact_with 0 a)
    pub each : (a : List Value) → ((Among a all → Among a rest) × (line_in now (fact_with 0 a) ≡ line_in old (fact_with 0 a))) ⊎
        (Among a all × HoldsIn here (line_in old (fact_with 0 a)) (line_in now (fact_with 0 a)))

  pub noting-begun : (rest : List (List Value)) → all ≡ rest → Noting rest old
  noting-begun rest q = record {
    left = λ a m. refl;
    each = λ a. inl (λ m. subst (Among a) q m, refl);
  }

  pub noting-end : (now : Lines) (rest : List (List Value)) → rest ≡ [] → Noting rest now → (a : List Value) →
      IsNoted all here a (line_in old (fact_with 0 a)) (line_in now (fact_with 0 a))
  noting-end now rest q so a = elim (so.each a) [ inl h ↦ inl (λ m. subst (Among a) q (h.0 m), h.1) | inr h ↦ inr h ]

  module _ (rest later : List (List Value)) (t : List Value) (mid now : Lines) (is : rest ≡ t ∷ later)
      (others : (u : List Value) → Among u later → u ≡ t → ⊥) (there : Among t all)
      (told : HoldsIn here (line_in mid (fact_with 0 t)) (line_in now (fact_with 0 t)))
      (stay : (g : Fact) → fact_eq (fact_with 0 t) g ≡ false → line_in now g ≡ line_in mid g) (so : Noting rest mid) where
    differs : (u : List Value) → (u ≡ t → ⊥) → (b : Bool) → fact_eq (fact_with 0 t) (fact_with 0 u) ≡ b → b ≡ false
    differs u h true q = absurd (h (ap (λ (f : Fact). f.args) (sym ((fact-tells (fact_with 0 t) (fact_with 0 u)).0 q))))
    differs u h false q = refl

    stays : (u : List Value) → (u ≡ t → ⊥) → line_in now (fact_with 0 u) ≡ line_in mid (fact_with 0 u)
    stays u h = stay (fact_with 0 u) (differs u h (fact_eq (fact_with 0 t) (fact_with 0 u)) refl)

    pub noting-on : Noting later now
    noting-on = record {
      left = λ u m. stays u (others u m) ∙ so.left u (subst (Among u) (sym is) (inr m));
      each = λ a. by a (fact_eq (fact_with 0 t) (fact_with 0 a)) refl;
    }
      where
        by : (a : List Value) (b : Bool) → fact_eq (fact_with 0 t) (fact_with 0 a) ≡ b
            → ((Among a all → Among a later) × (line_in now (fact_with 0 a) ≡ line_in old (fact_with 0 a))) ⊎
            (Among a all × HoldsIn here (line_in old (fact_with 0 a)) (line_in now (fact_with 0 a)))
        by a true q =
            let same : t ≡ a = ap (λ (f : Fact). f.args) ((fact-tells (fact_with 0 t) (fact_with 0 a)).0 q) in
            let was = so.left t (subst (Among t) (sym is) (inl refl)) in
            subst (λ (x : List Value). ((Among x all → Among x later) × (line_in now (fact_with 0 x) ≡ line_in old (fact_with 0 x))) ⊎
            (Among x all × HoldsIn here (line_in old (fact_with 0 x)) (line_in now (fact_with 0 x)))) same
            (inr (there, subst (λ (cs : List Change). HoldsIn here cs (line_in now (fact_with 0 t))) was told))
        by a false q =
            let other : a ≡ t → ⊥ = λ e. true≢false (sym ((fact-tells (fact_with 0 t) (fact_with 0 a)).1 (ap (fact_with 0) (sym e))) ∙ q) in
            elim (so.each a) [
              | inl h ↦ inl (
                λ m. elim (subst (Among a) is (h.0 m)) [ inl e ↦ absurd (other (sym e)) | inr k ↦ k ],
                stays a other ∙ h.1,
              )
              | inr h ↦ inr (h.0, subst (λ (cs : List Change). HoldsIn here (line_in old (fact_with 0 a)) cs) (sym (stays a other)) h.1)
            ]

-- ---- the tuples in one state, as they are read

pub not-after_itself : (t u : List Value) (all : List (List Value)) → Among u (rest_after (Some t) all) → u ≡ t → ⊥
not-after_itself t u all m e =
    let after : is_lt (row_cmp t u) ≡ true = ((Among-filter (later (Some t)) u all).0 m).1 in
    let tie : row_cmp t u ≡ Equal = ap (row_cmp t) e ∙ tied_itself row_total t in
    true≢false (sym after ∙ ap is_lt tie)

module _ (s : Situation) (e : Assignment) (ss : List Var) (b : Bound) (d : DifferInSlot ss) (o : OccurIn ss b) (here : Span)
    (old : Lines) where
  pub tuples-begun : (after : Option (List Value)) → after ≡ None → Noting (tuples s e ss b) here old
      (rest_after after (tuples s e ss b)) old
  tuples-begun after none = noting-begun (tuples s e ss b) here old (rest_after after (tuples s e ss b))
      (all-after-none (tuples s e ss b) ∙ ap (λ (x : Option (List Value)). rest_after x (tuples s e ss b)) (sym none))

  module _ (after : Option (List Value)) (t : List Value) (next : IsNext (length ss) (λ t. bound_true s (bind ss t e) b) after (Some t))
    where
      pub tuples-fewer : length (rest_after (Some t) (tuples s e ss b)) < length (rest_after after (tuples s e ss b))
      tuples-fewer = let size : length (rest_after after (tuples s e ss b)) ≡ suc (length (rest_after (Some t) (tuples s e ss b))) =
          ap length (rest-some s e ss b d o after t next) in omega arith

      pub tuples-on : (mid now : Lines) (f : Fact) → f ≡ fact_with 0 t → HoldsIn here (line_in mid f) (line_in now f) →
          ((g : Fact) → fact_eq f g ≡ false → line_in now g ≡ line_in mid g)
          → Noting (tuples s e ss b) here old (rest_after after (tuples s e ss b)) mid →
          Noting (tuples s e ss b) here old (rest_after (Some t) (tuples s e ss b)) now
      tuples-on mid now f q told stay so =
          noting-on (tuples s e ss b) here old (rest_after after (tuples s e ss b)) (rest_after (Some t) (tuples s e ss b)) t mid now
          (rest-some s e ss b d o after t next) (λ u m. not-after_itself t u (tuples s e ss b) m)
          ((all-tuples s e ss b d o t).1 (next.0.0, next.0.1))
          (subst (λ (x : Fact). HoldsIn here (line_in mid x) (line_in now x)) q told)
          (subst (λ (x : Fact). (g : Fact) → fact_eq x g ≡ false → line_in now g ≡ line_in mid g) q stay)
          so

  pub tuples-end : (after next : Option (List Value)) (now : Lines) → IsNext (length ss) (λ t. bound_true s (bind ss t e) b) after next →
      next ≡ None → Noting (tuples s e ss b) here old (rest_after after (tuples s e ss b)) now
      → (a : List Value) → IsNoted (tuples s e ss b) here a (line_in old (fact_with 0 a)) (line_in now (fact_with 0 a))
  tuples-end after next now h none so = noting-end (tuples s e ss b) here old now (rest_after after (tuples s e ss b))
      (rest-none s e ss b d o after (subst (IsNext (length ss) (λ t. bound_true s (bind ss t e) b) after) none h)) so

-- ---- the tuples along the states

module _ (p : PlainProblem) (ws : List World) (e : Assignment) (ss : List Var) (b : Bound) where
  -- the tuples are told at the positions from one on up to another
  pub record Told (from i : ℕ) (t : Tracks) : Type 0 where
    pub tell : (a : List Value) (k : ℕ) (w : World) → from ≤ k → k < i → slice_get ws k ≡ Some w →
        (truth_from false (line_in t.lines (fact_with 0 a)) k ≡ true) ↔ Among a (tuples (situation_of p w) e ss b)
    pub ended : (a : List Value) (k : ℕ) → i ≤ k → truth_from false (line_in t.lines (fact_with 0 a)) k ≡ false
    pub bounded : (a : List Value) → AreBefore (i + 1) (line_in t.lines (fact_with 0 a))
    pub covered : HaveSeenAll t
    pub counts : Each (IsTuple (length ss)) t.seen.items

  pub told-begun : (from : ℕ) (t : Tracks) → ((g : Fact) → line_in t.lines g ≡ []) → t.seen.items ≡ [] → HaveSeenAll t → Told from from t
  told-begun from t none unseen covered = record {
    tell = λ a k w h l s. absurd (omega arith);
    ended = λ a k h. ap (λ (cs : List Change). truth_from false cs k) (none (fact_with 0 a));
    bounded = λ a. subst (AreBefore (from + 1)) (sym (none (fact_with 0 a))) tt;
    covered = covered;
    counts = subst (Each (IsTuple (length ss))) (sym unseen) tt;
  }

  -- the positions of one more span, in whose states the tuples are the same
  pub told-on : (from : ℕ) (here : Span) (w : World) (old new : Tracks) → here.from < here.to → slice_get ws here.from ≡ Some w
      → ((a : List Value) (k : ℕ) (v : World) → here.from ≤ k → k < here.to → slice_get ws k ≡ Some v →
      Among a (tuples (situation_of p w) e ss b) ↔ Among a (tuples (situation_of p v) e ss b))
      → ((a : List Value) → IsNoted (tuples (situation_of p w) e ss b) here a (line_in old.lines (fact_with 0 a))
      (line_in new.lines (fact_with 0 a)))
      → HaveSeenAll new → Each (IsTuple (length ss)) new.seen.items → Told from here.from old → Told from here.to new
  told-on from here w old new some first same noted covered counts so = record {
    tell = λ a k v h l s. (elim (noted a) [
      | inl n ↦ (elim (dec_lt k here.from) [
        | yes past ↦ (let t = so.tell a k v h past s in (
          λ x. t.0 (sym (ap (λ (cs : List Change). truth_from false cs k) n.1) ∙ x),
          λ m.
              ap (λ (cs : List Change). truth_from false cs k) n.1 ∙ t.1 m,
        ))
        | no now ↦ (
          λ x. absurd (true≢false (sym x ∙ (ap (λ (cs : List Change). truth_from false cs k) n.1 ∙ so.ended a k (omega arith)))),
          λ m. absurd (n.0 ((same a k v (omega arith) l s).1 m)),
        )
      ])
      | inr n ↦ (let holds = n.1 (so.bounded a) in elim (dec_lt k here.from) [
        | yes past ↦ (let t = so.tell a k v h past s in (λ x. t.0 (sym (holds.earlier k past) ∙ x), λ m. holds.earlier k past ∙ t.1 m))
        | no now ↦ (λ x. (same a k v (omega arith) l s).0 n.0, λ m. holds.there k (omega arith) l)
      ])
    ]);
    ended = λ a k h. (elim (noted a) [
      | inl n ↦ ap (λ (cs : List Change). truth_from false cs k) n.1 ∙ so.ended a k (omega (arith, some, h))
      | inr n ↦ (n.1 (so.bounded a)).ended k h
    ]);
    bounded = λ a. (elim (noted a) [
      | inl n ↦ subst (AreBefore (here.to + 1)) (sym n.1) (before-weaker (here.from + 1) (here.to + 1) (line_in old.lines (fact_with 0 a))
          (omega (arith, some)) (so.bounded a))
      | inr n ↦ (n.1 (so.bounded a)).bounded
    ]);
    covered = covered;
    counts = counts;
  }

  pub told-end : (span : Span) (i : ℕ) (t : Tracks) → span.to ≤ i → Told span.from i t → TellTuples p ws e ss b span t
  told-end span i t h so = record {
    tell = λ a k w l m s. so.tell a k w l (omega arith) s;
    covered = so.covered;
    counts = so.counts;
  }
